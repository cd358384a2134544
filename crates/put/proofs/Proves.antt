-- One set for `search`: what the needs ask, and what a test of the code says of the same test in a definition. It closes decision chains.
-- Assumes nothing.
use borrow.Author.Rules.{rules}
use borrow.Author.Tests.{lt-ltb, le-ltb, le-leb, lt-leb, eq-eqb, ne_eqb}

pub ruleset proves = (rules, eq-eqb, ne_eqb, lt-ltb, le-ltb, le-leb, lt-leb)
