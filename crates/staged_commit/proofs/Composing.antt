-- What the steps of composing a write say together.
use Rattle.std.proofs.Common.{◌≡◌, ℕ, ℤ, ◌<ℤ◌, int_lt, Bool, true, false, if◌then◌else◌, arith, List, [], ◌∷◌, ◌++◌, length, insert, Some, None, Option, Result, Ok, Err, IfOk, IfErr, OnOk, refl, sym, ap, ◌∙◌, subst}
use Rattle.std.proofs.lemmas.Int.{ints}
use Rattle.std.proofs.lemmas.List.{append_assoc}
use Rattle.action_types.specs.declared.actions.Action.{Action}
use Rattle.action_json.specs.Commit.{AreWritten, IsCommit, canonical_text, outcome}
use Rattle.action_json.proofs.Again.{outcome-canonical_text}
use Rattle.commit_timestamps.specs.Times.{end_of_time, next_time}
use Rattle.conflict_rules.specs.declared.intent.Intent.{Intent}
use Rattle.table_rules.specs.Broken.{Before, broken_by, not_after}
use Rattle.table_rules.specs.declared.broken.Broken.{Broken}
use Rattle.table_rules.specs.declared.broken.Broken.TheVariants as broken
use Rattle.staged_commit.specs.Answers.{IsComposedOn, IsJudged, IsUnwritten}
use Rattle.staged_commit.specs.WriteAnswers.{BreaksFirst, Composes, IsAtEndOn, IsComposedAt, IsText, IsTextOn, IsWrittenAt, JudgesWrite, RefusesAt, write_on}
use Rattle.staged_commit.specs.declared.commit.Composed.{Composed}
use Rattle.staged_commit.specs.declared.fault.ComposeError.{ComposeError}
use Rattle.staged_commit.specs.declared.fault.ComposeError.TheVariants as fault

pub insert-between : {X : Type 0} (xs ys : List X) (x : X) → insert (xs ++ ys) (length xs) x ≡ xs ++ x ∷ ys
insert-between [] ys x = refl
insert-between (y ∷ xs) ys x = ap (λ l. y ∷ l) (insert-between xs ys x)

pub joined : {X : Type 0} (xs one two three ys zs ws : List X) → one ≡ xs ++ ys → two ≡ one ++ zs → three ≡ two ++ ws → three ≡ xs ++ (ys ++ (zs ++ ws))
joined xs one two three ys zs ws h k l =
    l ∙ ap (λ m. m ++ ws) (k ∙ ap (λ m. m ++ zs) h) ∙ append_assoc (xs ++ ys) zs ws ∙ append_assoc xs ys (zs ++ ws)

pub reads-back : (actions : List Action) (time : ℤ) (limit : ℕ) (r : Result Composed ComposeError) → IsCommit actions → IfOk r (λ c. IsText actions time limit c)
    → OnOk r (AreWritten actions) → IfOk r (λ c. outcome c.bytes.items ≡ Ok c.actions.items)
reads-back actions time limit (Ok made) commit h w = ap outcome h.text ∙ outcome-canonical_text actions commit w ∙ ap Ok (sym h.actions_are)
reads-back actions time limit (Err e) commit h w = tt

module _ (table : Before) (intent : Intent) where
  -- what a check tells of a write
  pub judges : (found : Option Broken) (e : ComposeError) → BreaksFirst table intent found → IsJudged (Err e) found → JudgesWrite table intent e
  judges found (fault.Broken b) first h = subst (BreaksFirst table intent) h first
  judges found (fault.TimeEnd last) first h = absurd h
  judges found (fault.TooLarge bytes) first h = absurd h
  judges found fault.Memory first h = tt

  module _ (id : ℕ) (limit : ℕ) where
    -- ---- at a time

    pub written-at : (time : ℤ) (actions : List Action) (r : Result Composed ComposeError) → IsComposedAt table intent id time actions
        → IfOk r (λ c. IsText actions time limit c) → IfOk r (λ c. IsWrittenAt table intent id time limit c)
    written-at time actions (Ok made) h k = record { rules = h.rules; made_of = subst (λ (l : List Action). IsText l time limit made) h.actions_are k }
    written-at time actions (Err e) h k = tt

    refused-text : (time : ℤ) (actions : List Action) (e : ComposeError) → IsComposedAt table intent id time actions → IsUnwritten actions limit e → RefusesAt table intent id time limit e
    refused-text time actions (fault.Broken b) h k = absurd k
    refused-text time actions (fault.TimeEnd last) h k = absurd k
    refused-text time actions (fault.TooLarge bytes) h k = record {
      rules = h.rules;
      bytes_are = k.bytes_are ∙ ap (λ l. length (canonical_text l)) h.actions_are;
      above = k.above;
    }
    refused-text time actions fault.Memory h k = tt

    pub refused-at : (time : ℤ) (actions : List Action) (r : Result Composed ComposeError) → IsComposedAt table intent id time actions
        → IfErr r (λ e. IsUnwritten actions limit e) → IfErr r (λ e. RefusesAt table intent id time limit e)
    refused-at time actions (Ok made) h k = tt
    refused-at time actions (Err e) h k = refused-text time actions e h k

    pub refused-judged : (time : ℤ) (e : ComposeError) → JudgesWrite table intent e → RefusesAt table intent id time limit e
    refused-judged time (fault.Broken b) h = h
    refused-judged time (fault.TimeEnd last) h = absurd h
    refused-judged time (fault.TooLarge bytes) h = absurd h
    refused-judged time fault.Memory h = tt

    -- ---- at the next time

    pub composes-next : (now time : ℤ) (r : Result Composed ComposeError) → next_time table.time now ≡ Some time → IfOk r (λ c. IsWrittenAt table intent id time limit c)
        → IfErr r (λ e. RefusesAt table intent id time limit e) → Composes table intent id now limit r
    composes-next now time (Ok made) next h k =
        let same : time ≡ made.time = sym h.made_of.time_is in
        record { next = next ∙ ap Some same; written = subst (λ (t : ℤ). IsWrittenAt table intent id t limit made) same h }
    composes-next now time (Err (fault.Broken b)) next h k = k
    composes-next now time (Err (fault.TimeEnd last)) next h k = absurd k
    composes-next now time (Err (fault.TooLarge bytes)) next h k = record { time = time; next = next; long = k }
    composes-next now time (Err fault.Memory) next h k = tt

    -- ---- at the end of time

    pub composes-judged : (now : ℤ) (e : ComposeError) → JudgesWrite table intent e → Composes table intent id now limit (Err e)
    composes-judged now (fault.Broken b) h = h
    composes-judged now (fault.TimeEnd last) h = absurd h
    composes-judged now (fault.TooLarge bytes) h = absurd h
    composes-judged now fault.Memory h = tt

-- ---- a create

pub text-on : (table : Before) (l actions : List Action) (t time : ℤ) (limit : ℕ) (r : Result Composed ComposeError) → l ≡ actions → t ≡ time → broken_by table l ≡ None
    → IfOk r (λ c. IsText l t limit c) → IfOk r (λ c. IsTextOn table actions time limit c)
text-on table l actions t time limit (Ok made) same now rules h = record {
  rules = subst (λ (a : List Action). broken_by table a ≡ None) same rules;
  made_of = subst (λ (a : List Action). IsText a time limit made) same (subst (λ (x : ℤ). IsText l x limit made) now h);
}
text-on table l actions t time limit (Err e) same now rules h = tt

pub text-composed : (table : Before) (actions : List Action) (time : ℤ) (limit : ℕ) (r : Result Composed ComposeError) → IfOk r (λ c. IsTextOn table actions time limit c)
    → IfOk r (λ c. outcome c.bytes.items ≡ Ok c.actions.items) → IfOk r (λ c. IsComposedOn table actions time limit c)
text-composed table actions time limit (Ok made) h k = record {
  actions_are = h.made_of.actions_are;
  time_is = h.made_of.time_is;
  text = h.made_of.text;
  reads_back = k ∙ ap Ok h.made_of.actions_are;
  rules = h.rules;
  within = h.made_of.within;
}
text-composed table actions time limit (Err e) h k = tt

-- ---- at the end of time

lt-true : (a b : ℤ) → a <ℤ b → (t : Bool) → int_lt a b ≡ t → t ≡ true
lt-true a b h true e = refl
lt-true a b h false e = absurd (omega (arith, ints))

pub later-than : (a b : ℤ) → a <ℤ b → not_after (Some a) (Some b) ≡ None
later-than a b h = ap (λ t. if t then None else Some (broken.TimeNotAfter a)) (lt-true a b h (int_lt a b) refl)

module _ (table : Before) (intent : Intent) (found : Option Broken) where
  pub judged-ok : (r : Result Unit ComposeError) → BreaksFirst table intent found → IsJudged r found → IfOk r (λ _. BreaksFirst table intent None)
  judged-ok (Ok u) first h = subst (BreaksFirst table intent) h first
  judged-ok (Err e) first h = tt

  pub judged-err : (r : Result Unit ComposeError) → BreaksFirst table intent found → IsJudged r found → IfErr r (λ e. JudgesWrite table intent e)
  judged-err (Ok u) first h = tt
  judged-err (Err e) first h = judges table intent found e first h
