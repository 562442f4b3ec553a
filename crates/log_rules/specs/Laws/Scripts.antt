-- Laws our scripts lean on (document 02, K12): over items in turn, over rows of items, and over the calls.
pub mod InTurn
