-- What always holds of an answer: a value that is read keeps NaNs in cases of their own.
use Rattle.std.specs.Prelude.{◌≡◌, true, Result, Ok, Err}
use Rattle.format.specs.Answers.{nan_apart}
use Rattle.format.specs.declared.answers.Token.{Token}
use Rattle.format.specs.declared.refusals.Refusal.{Refusal}

abbrev pub NansApart : Result Token Refusal → Type 0
NansApart (Ok t) = nan_apart t.value ≡ true
NansApart (Err r) = Unit {0}
