-- What is seen of a source, a sink, a clock and ids, before a call and after it.
use Rattle.std.specs.Prelude.{ℕ, ℤ, Bool, List}

-- whether it tells what it gives; the bytes that were taken of it and those that are left, before and after
pub record SourceView : Type 0 where
  pub tells : Bool
  pub taken : List ℕ
  pub left : List ℕ
  pub taken' : List ℕ
  pub left' : List ℕ

-- whether it tells what it takes; the bytes that were written, before and after
pub record SinkView : Type 0 where
  pub tells : Bool
  pub written : List ℕ
  pub written' : List ℕ

-- whether its reading is fixed, and the reading before
pub record ClockView : Type 0 where
  pub fixed : Bool
  pub reading : ℤ

-- whether the ids are all told to differ, and those that were given, before and after
pub record IdsView : Type 0 where
  pub differ : Bool
  pub given : List ℕ
  pub differ' : Bool
  pub given' : List ℕ

abbrev pub source_view : Bool → List ℕ → List ℕ → List ℕ → List ℕ → SourceView
source_view tells taken left taken' left' = record { tells = tells; taken = taken; left = left; taken' = taken'; left' = left' }

abbrev pub sink_view : Bool → List ℕ → List ℕ → SinkView
sink_view tells written written' = record { tells = tells; written = written; written' = written' }

abbrev pub clock_view : Bool → ℤ → ClockView
clock_view fixed reading = record { fixed = fixed; reading = reading }

abbrev pub ids_view : Bool → List ℕ → Bool → List ℕ → IdsView
ids_view differ given differ' given' = record { differ = differ; given = given; differ' = differ'; given' = given' }
