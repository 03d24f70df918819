mod OptionsRead
mod OptionValues
mod CompleteOptions
