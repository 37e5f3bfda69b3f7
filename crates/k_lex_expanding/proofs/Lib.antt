mod ArgumentLaws
mod FirstLaws
mod MachineLaws
mod MacroLaws
mod StepLaws
