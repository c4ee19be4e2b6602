-- What sources and sinks tell of the bytes that move.
--     told tells bytes           the bytes, as an object tells them: none where it does not tell
--     Takes                      a source gave these bytes
--     Reads, Writes              what one read gave, what one write took
--     WritesSome                 the bytes that a failed writing put, and those that it did not
use Rattle.std.specs.Prelude.{◌≡◌, ◌≤◌, ◌<◌, ℕ, Bool, List, [], ◌++◌, length, take, if◌then◌else◌, IsTrue}

-- what an object that does not tell is said to hold never changes
abbrev pub told : Bool → List ℕ → List ℕ
told tells bytes = if tells then bytes else []

-- the bytes stood at the front of what was left, and stand at the end of what was taken
pub record Takes (tells : Bool) (taken left bytes taken' left' : List ℕ) : Type 0 where
  pub left_is : left ≡ told tells bytes ++ left'
  pub taken_is : taken' ≡ taken ++ told tells bytes

-- a read of n bytes into a buffer; none is the end of the input
pub record Reads (tells : Bool) (taken left into : List ℕ) (n : ℕ) (taken' left' : List ℕ) : Type 0 where
  pub room : n ≤ length into
  pub takes : Takes tells taken left (take n into) taken' left'
  pub end_is : n ≡ 0 → IsTrue tells → left ≡ []

-- a write of the first n of the bytes, which are at least one
pub record Writes (tells : Bool) (written from : List ℕ) (n : ℕ) (written' : List ℕ) : Type 0 where
  pub some : 0 < n
  pub room : n ≤ length from
  pub is : written' ≡ written ++ told tells (take n from)

-- a part of the bytes was written, and at least one was not
pub record WritesSome (tells : Bool) (written bytes written' : List ℕ) : Type 0 where
  pub part : List ℕ
  pub lacking : List ℕ
  pub some : 0 < length lacking
  pub all : bytes ≡ part ++ lacking
  pub is : written' ≡ written ++ told tells part
