pub mod RightSide
