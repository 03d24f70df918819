mod ClaimedOnce
mod Found
mod Swept
