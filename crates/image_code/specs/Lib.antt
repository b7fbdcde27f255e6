-- What the contracts of the crates that judge a code cite beside the rules: an instruction's form, a table of constants' kinds.
pub mod Forms
pub mod Table
