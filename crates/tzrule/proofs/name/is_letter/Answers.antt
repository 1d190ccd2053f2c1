-- `tzrule::name::is_letter` meets its contract.
use Rattle.tzrule.proofs.{Letters.{below_capitals, capital, below_smalls, small}}
use Rattle.tzrule.proofs.name.is_letter.Goals as goal

pub returns-then-byte-lt65 : goal.returns-then-byte-lt65
returns-then-byte-lt65 c =
    below_capitals _ c.if-byte-lt65.true

pub returns-then-byte-lt91 : goal.returns-then-byte-lt91
returns-then-byte-lt91 c =
    capital _ c.if-byte-lt65.false c.if-byte-lt91.true

pub returns-then-byte-lt97 : goal.returns-then-byte-lt97
returns-then-byte-lt97 c =
    below_smalls _ c.if-byte-lt91.false c.if-byte-lt97.true

pub returns : goal.returns
returns c =
    small _ c.if-byte-lt91.false c.if-byte-lt97.false
