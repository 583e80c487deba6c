pub mod Contents
pub mod RoundTrip
