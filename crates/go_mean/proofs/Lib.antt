mod Outcomes
mod Outputs
mod StepOutputs
mod Fronts
