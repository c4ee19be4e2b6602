-- A state that stands for a log has its live files; the first of several rules, and the first of several winners.
use Rattle.std.proofs.Common.{◌≡◌, ℕ, zero, suc, ◌+◌, List, [], ◌∷◌, Option, Some, None, option_map, MatchOption, All, arith, refl, sym, ap, ◌∙◌}
use Rattle.action_types.specs.declared.actions.Action.{Action}
use Rattle.reconcile.specs.Replay.{Log, or_else}
use Rattle.reconcile.specs.Standing.{StandsFor, live_in}
use Rattle.reconcile.specs.declared.state.State.{State}
use Rattle.conflict_rules.specs.Conflict.{Said, live_files, first_of, IsLowest}

pub live_in-files : (state : State) (log : Log) → StandsFor state log → live_in state ≡ live_files log
live_in-files state log h = λ i file. h.table.live file i

-- where the first rule holds, it decides
pub first_decides : {X : Type 0} (x : X) (a b : Option X) → Some x ≡ a → Some x ≡ or_else a b
first_decides x a b e = ap (λ o. or_else o b) e

-- where the first rule does not hold, the rest decides
pub rest_decides : {X : Type 0} (r a b : Option X) → a ≡ None → r ≡ b → r ≡ or_else a b
rest_decides r a b none e = e ∙ ap (λ o. or_else o b) (sym none)

none_more : (conflict : List Action → Option Said) (winner : List Action) (winners : Log) → conflict winner ≡ None
    → All (λ other. conflict other ≡ None) winners → All (λ other. conflict other ≡ None) (winner ∷ winners)
none_more conflict winner winners first rest zero d within = first
none_more conflict winner winners first rest (suc k) d within = rest k d (omega arith)

none_at_all : (conflict : List Action → Option Said) → All (λ other. conflict other ≡ None) []
none_at_all conflict k d within = absurd (omega arith)

abbrev Lawful : (List Action → Option Said) → ℕ → Log → Option (ℕ × Said) → Type 0
Lawful conflict version winners found =
    MatchOption found (All (λ other. conflict other ≡ None) winners) (λ f. IsLowest conflict version winners f)

next : (conflict : List Action → Option Said) (version : ℕ) (winner : List Action) (winners : Log) (found : Option (ℕ × Said))
    → conflict winner ≡ None → Lawful conflict (version + 1) winners found → Lawful conflict version (winner ∷ winners) found
next conflict version winner winners None none all = none_more conflict winner winners none all
next conflict version winner winners (Some f) none low = record {
  front = winner ∷ low.front;
  winner = low.winner;
  back = low.back;
  place = ap (λ (l : Log). winner ∷ l) low.place;
  named = low.named ∙ omega arith;
  clashes = low.clashes;
  none_before = none_more conflict winner low.front none low.none_before;
}

here : (conflict : List Action → Option Said) (version : ℕ) (winner : List Action) (winners : Log) (o : Option Said) → conflict winner ≡ o
    → Lawful conflict (version + 1) winners (first_of conflict (version + 1) winners)
    → Lawful conflict version (winner ∷ winners) (or_else (option_map (λ clash. (version, clash)) o) (first_of conflict (version + 1) winners))
here conflict version winner winners None e rest = next conflict version winner winners _ e rest
here conflict version winner winners (Some clash) e rest = record {
  front = [];
  winner = winner;
  back = winners;
  place = refl;
  named = omega arith;
  clashes = e;
  none_before = none_at_all conflict;
}

-- the first conflict is that of the lowest version that conflicts
pub first_of-lowest : (conflict : List Action → Option Said) (version : ℕ) (winners : Log) → Lawful conflict version winners (first_of conflict version winners)
first_of-lowest conflict version [] = none_at_all conflict
first_of-lowest conflict version (winner ∷ winners) =
    here conflict version winner winners (conflict winner) refl (first_of-lowest conflict (version + 1) winners)
