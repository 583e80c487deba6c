pub mod ModifierLists
