-- What contracts see of passes, tables and tokens.
pub mod Views
pub mod PoolView
pub mod RunnerView
pub mod StepperView
pub mod PassView
pub mod SlotsView
pub mod OpeningView
pub mod TokenView
