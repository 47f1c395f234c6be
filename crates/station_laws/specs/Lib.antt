pub mod OthersStay
pub mod AsIfAlone
pub mod StationOwnDoing
pub mod StationBuffers
pub mod StationChanges
pub mod StationWordsStay
pub mod OneRecord
