mod Elements
mod StageCodes
mod Arms
mod OneCall
mod Loop
mod Run
