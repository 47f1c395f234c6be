pub mod StationPromises
