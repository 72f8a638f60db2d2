pub mod Hearing
mod ByCalls
mod Checked
mod Merging
mod MergingEnds
mod MergingFiles
mod MergingStreams
mod OneAnswer
mod ReadingAhead
mod ReadingOn
mod VectorsOfMerging
mod VectorsOfHolding
mod VectorsOfSuccess
mod Words
