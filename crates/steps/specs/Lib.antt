-- The lent areas as the rules' state, and what it is for a function over them to come to a step of the rules.
pub mod Numbers
pub mod Why
pub mod View
