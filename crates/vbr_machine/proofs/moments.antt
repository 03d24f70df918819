-- What runs say to the layers above: which keys were present at which moment, and which nodes have left.
pub mod AtLoads
pub mod MarkedChains
pub mod MarkedMoments
pub mod RunForms
pub mod Removals
pub mod ReplacedNodes
