pub mod FileKeysLemmas
mod Common
pub mod Trees
pub mod EachValue
pub mod Parsed
pub mod Values
pub mod ClassReading
pub mod RowParts
pub mod RowReading
pub mod Places
pub mod PlantReading
pub mod SaidKeys
pub mod SaidRows
pub mod SaidConsts
pub mod SaidPlant
pub mod FirstLaws
