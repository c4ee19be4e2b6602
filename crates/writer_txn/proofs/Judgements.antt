-- An append is judged by the commits that were ratified since it took the table in.
use Rattle.std.proofs.Common.{◌≡◌, ◌<◌, ◌≤◌, ◌+◌, ◌<ℤ◌, ℕ, ℤ, Bool, IsTrue, List, [], ◌∷◌, ◌++◌, length, take, drop, refl, sym, ◌∙◌, ap, subst, arith, append_assoc, append-nil, get_or}
use Rattle.std.specs.Prelude.{Option, Some, None, option_map, IfSome, Vec, Result, Ok, Err, IsErrAnd}
use Rattle.std.specs.declared.alloc.Global.{Global}
use Rattle.std.specs.List.{filter_map}
use Rattle.std.proofs.lemmas.List.{take-append-drop, take-append-le, drop-append-le, length-take-le, length-drop, length-map, map-append, take_all, take_more}
use Rattle.action_types.specs.declared.actions.Action.{Action}
use Rattle.action_types.specs.declared.actions.Action.TheVariants as action
use Rattle.action_types.specs.declared.actions.Add.{Add}
use Rattle.action_types.specs.declared.actions.Txn.{Txn}
use Rattle.action_types.specs.Files.{File}
use Rattle.least_names.specs.Least.{least_file}
use Rattle.reconcile.specs.declared.State.{State}
use Rattle.reconcile.specs.Replay.{Log, or_else}
use Rattle.reconcile.specs.Standing.{StandsFor, live_in}
use Rattle.reconcile.proofs.Last.{or_else_assoc}
use Rattle.table_rules.specs.Broken.{number_at}
use Rattle.table_rules.specs.Seen.{number_in}
use Rattle.conflict_rules.specs.declared.intent.Intent.{Intent}
use Rattle.conflict_rules.specs.declared.intent.Reads.{Reads}
use Rattle.conflict_rules.specs.declared.intent.Reads.TheVariants as reads
use Rattle.conflict_rules.specs.declared.clash.Rule.{Rule}
use Rattle.conflict_rules.specs.declared.clash.Rule.TheVariants as rule
use Rattle.conflict_rules.specs.Conflict.{Said, at_file, by_append, by_delete_delete, by_delete_read, by_domain, conflicts_of_table, read_file, conflict_by, conflict_with, live_files, first_of, commits_of}
use Rattle.table_model.specs.Log.{Commit, history}
use Rattle.snapshot_load.specs.declared.answers.Winners.{Winners}
use Rattle.snapshot_load.specs.Snapshots.{AreWinners}
use Rattle.writer_txn.specs.declared.attempts.Front.{Front}
use Rattle.writer_txn.specs.declared.attempts.Outcome.{Outcome}
use Rattle.writer_txn.specs.declared.errors.WriteError.{WriteError}
use Rattle.writer_txn.specs.declared.errors.WriteError.TheVariants as failed
use Rattle.writer_txn.specs.Fronts.{before, above, first_clash, IsNewer}
use Rattle.writer_txn.specs.Writing.{IsAlready, IsConflict}
use Rattle.writer_txn.specs.Judging.{IsAtOrAbove}
use Rattle.writer_txn.specs.Trying.{IsFrontOf, AttemptStands}

-- ---- an append has read nothing, so it looks at no live file

none_read : (live : File → Option Add) (winner : List Action) → filter_map (read_file reads.None live) winner ≡ []
none_read live [] = refl
none_read live (action.Info a ∷ rest) = none_read live rest
none_read live (action.Protocol a ∷ rest) = none_read live rest
none_read live (action.Meta a ∷ rest) = none_read live rest
none_read live (action.Txn a ∷ rest) = none_read live rest
none_read live (action.Domain a ∷ rest) = none_read live rest
none_read live (action.Remove a ∷ rest) = none_read live rest
none_read live (action.Add a ∷ rest) = none_read live rest

nothing_read : (read : Reads) (live : File → Option Add) (winner : List Action) → read ≡ reads.None
    → by_delete_read read live winner ≡ option_map (at_file rule.DeleteRead) (least_file [])
nothing_read read live winner e =
    ap (λ (r : Reads). by_delete_read r live winner) e ∙ ap (λ (files : List File). option_map (at_file rule.DeleteRead) (least_file files)) (none_read live winner)

pub append_clash : (intent : Intent) (live other : File → Option Add) (winner : List Action) → intent.reads ≡ reads.None → conflict_by intent live winner ≡ conflict_by intent other winner
append_clash intent live other winner e =
    let same : by_delete_read intent.reads live winner ≡ by_delete_read intent.reads other winner =
    nothing_read intent.reads live winner e ∙ sym (nothing_read intent.reads other winner e) in
    ap
    (λ (o : Option Said).
    or_else (conflicts_of_table intent winner)
    (or_else (or_else (by_delete_delete intent.removes winner) (or_else o (by_append intent.level intent.reads winner))) (by_domain intent.domains winner)))
    same

-- ---- the first conflict, over lists put together and at later versions

pub first_of-same : (conflict other : List Action → Option Said) (version : ℕ) (winners : Log) → ((w : List Action) → conflict w ≡ other w)
    → first_of conflict version winners ≡ first_of other version winners
first_of-same conflict other version [] same = refl
first_of-same conflict other version (w ∷ ws) same =
    ap (λ (o : Option Said). or_else (option_map (λ clash. (version, clash)) o) (first_of conflict (version + 1) ws)) (same w)
    ∙ ap (or_else (option_map (λ clash. (version, clash)) (other w))) (first_of-same conflict other (version + 1) ws same)

pub first_of-append : (conflict : List Action → Option Said) (version : ℕ) (ws more : Log)
    → first_of conflict version (ws ++ more) ≡ or_else (first_of conflict version ws) (first_of conflict (version + length ws) more)
first_of-append conflict version [] more = ap (λ (v : ℕ). first_of conflict v more) (let e : version ≡ version + 0 = omega arith in e)
first_of-append conflict version (w ∷ ws) more =
    ap (or_else (option_map (λ clash. (version, clash)) (conflict w)))
    (first_of-append conflict (version + 1) ws more
    ∙ ap (λ (v : ℕ). or_else (first_of conflict (version + 1) ws) (first_of conflict v more)) (let e : version + 1 + length ws ≡ version + length (w ∷ ws) = omega arith in e))
    ∙ sym (or_else_assoc (option_map (λ clash. (version, clash)) (conflict w)) (first_of conflict (version + 1) ws) (first_of conflict (version + length (w ∷ ws)) more))

abbrev pub moved_up : ℕ → Option (ℕ × Said) → Option (ℕ × Said)
moved_up n found = option_map (λ (p : ℕ × Said). (n + p.0, p.1)) found

moved_clash : (n version : ℕ) (here : Option Said) (rest more : Option (ℕ × Said)) → more ≡ moved_up n rest
    → or_else (option_map (λ clash. (n + version, clash)) here) more ≡ moved_up n (or_else (option_map (λ clash. (version, clash)) here) rest)
moved_clash n version None rest more e = e
moved_clash n version (Some clash) rest more e = refl

pub first_of-moved : (conflict : List Action → Option Said) (n version : ℕ) (ws : Log) → first_of conflict (n + version) ws ≡ moved_up n (first_of conflict version ws)
first_of-moved conflict n version [] = refl
first_of-moved conflict n version (w ∷ ws) =
    moved_clash n version (conflict w) (first_of conflict (version + 1) ws) (first_of conflict (n + version + 1) ws)
    (ap (λ (v : ℕ). first_of conflict v ws) (let e : n + version + 1 ≡ n + (version + 1) = omega arith in e) ∙ first_of-moved conflict n (version + 1) ws)

-- ---- the first conflict is one of the winners

abbrev place_of : Option (ℕ × Said) → ℕ
place_of None = 0
place_of (Some p) = p.0

found_within : (version n : ℕ) (here : Option Said) (rest : Option (ℕ × Said)) (p : ℕ × Said)
    → ((q : ℕ × Said) → rest ≡ Some q → (version + 1 ≤ q.0) × (q.0 < version + 1 + n))
    → or_else (option_map (λ clash. (version, clash)) here) rest ≡ Some p → (version ≤ p.0) × (p.0 < version + (n + 1))
found_within version n None rest p h e =
    let b = h p e in
    let low = b.0 in
    let high = b.1 in
    (omega (arith, low), omega (arith, high))
found_within version n (Some clash) rest p h e = let at : version ≡ p.0 = ap place_of e in (omega (arith, at), omega (arith, at))

pub first_of_within : (conflict : List Action → Option Said) (version : ℕ) (ws : Log) (p : ℕ × Said) → first_of conflict version ws ≡ Some p
    → (version ≤ p.0) × (p.0 < version + length ws)
first_of_within conflict version [] p e = absurd (cc)
first_of_within conflict version (w ∷ ws) p e =
    let b = found_within version (length ws) (conflict w) (first_of conflict (version + 1) ws) p (first_of_within conflict (version + 1) ws) e in
    (b.0, let high = b.1 in omega (arith, high))

-- ---- fronts of a log

-- a shorter front of a front
pub shorter_front : {A : Type 0} (log : List A) (a n : ℕ) → a ≤ n → n ≤ length log → take a (take n log) ≡ take a log
shorter_front log a n less within =
    sym (take-append-le a (take n log) (drop n log) (let e = length-take-le n log within in omega (arith, e, less))) ∙ ap (take a) (take-append-drop n log)

-- the front up to a later version is the one up to the base, and the commits above it
pub front_parts : (log : List Commit) (base n : ℕ) → base + 1 ≤ n → n ≤ length log → before n log ≡ before (base + 1) log ++ above base n log
front_parts log base n less within =
    ap history (sym (take-append-drop (base + 1) (take n log)))
    ∙ map-append _ (take (base + 1) (take n log)) (drop (base + 1) (take n log))
    ∙ ap (λ (l : List Commit). history l ++ above base n log) (shorter_front log (base + 1) n less within)

-- all of a log is its front and the commits from there
pub log_parts : (log : List Commit) (n : ℕ) → history log ≡ before n log ++ history (drop n log)
log_parts log n = ap history (sym (take-append-drop n log)) ∙ map-append _ (take n log) (drop n log)

-- the commits above the base are those below a version and those from there
pub above_parts : (log : List Commit) (base n : ℕ) → base + 1 ≤ n → n ≤ length log → history (drop (base + 1) log) ≡ above base n log ++ history (drop n log)
above_parts log base n less within =
    ap (λ (l : List Commit). history (drop (base + 1) l)) (sym (take-append-drop n log))
    ∙ ap history (drop-append-le (base + 1) (take n log) (drop n log) (let e = length-take-le n log within in omega (arith, e, less)))
    ∙ map-append _ (drop (base + 1) (take n log)) (drop n log)

-- ---- the table with the winners

-- what the number in a state says of its log
pub newer_of : (intent : Intent) (state : State) (log : Log) → StandsFor state log → IfSome (number_in state intent.app) (λ recorded. recorded <ℤ intent.number) → IsNewer intent log
newer_of intent state log stands h =
    subst (λ (o : Option Txn). IfSome (option_map (λ (t : Txn). t.number) o) (λ recorded. recorded <ℤ intent.number)) (stands.table.txn intent.app) h

pub number_of : (intent : Intent) (state : State) (log : Log) → StandsFor state log → number_in state intent.app ≡ number_at intent.app log
number_of intent state log stands = ap (option_map (λ (t : Txn). t.number)) (stands.table.txn intent.app)

-- all of a log is the front up to its last version
pub all_before : (log : List Commit) (latest : ℕ) → latest + 1 ≡ length log → before (latest + 1) log ≡ history log
all_before log latest e = ap history (take_all (latest + 1) log (omega (arith, e)))

-- the front and the winners are all of the log
pub with_winners : (log : List Commit) (n latest : ℕ) (ws : Log) → latest + 1 ≡ length log → ws ≡ history (drop n log) → before n log ++ ws ≡ before (latest + 1) log
with_winners log n latest ws e is = ap (λ (w : Log). before n log ++ w) is ∙ sym (log_parts log n) ∙ sym (all_before log latest e)

length-above : (log : List Commit) (base n : ℕ) → base + 1 ≤ n → n ≤ length log → base + 1 + length (above base n log) ≡ n
length-above log base n less within =
    let a : length (above base n log) ≡ length (drop (base + 1) (take n log)) = length-map (drop (base + 1) (take n log)) _ in
    let b = length-drop (base + 1) (take n log) in
    let d = length-take-le n log within in
    omega (arith, a, b, d, less)

nothing_before : {B : Type 0} (a b c : Option B) → a ≡ None → b ≡ c → or_else a b ≡ c
nothing_before a b c e f = ap (λ o. or_else o b) e ∙ f

-- the first conflict with all above the base is that with the winners, where none conflicted before
pub clash_found : (intent : Intent) (f : Front) (log : List Commit) (latest : ℕ) (ws : Log) (found : Option (ℕ × Said)) → intent.reads ≡ reads.None
    → f.base ≤ f.latest → f.latest < length log → latest + 1 ≡ length log → ws ≡ history (drop (f.latest + 1) log)
    → first_clash intent f.base (f.latest + 1) log ≡ None → found ≡ first_of (conflict_by intent (live_in f.state)) 0 ws
    → first_clash intent f.base (latest + 1) log ≡ moved_up (f.latest + 1) found
clash_found intent f log latest ws found none base within last is clear at =
    let c : List Action → Option Said = conflict_with intent (before (f.base + 1) log) in
    let n : ℕ = f.latest + 1 in
    let all : above f.base (latest + 1) log ≡ above f.base n log ++ ws =
    ap (λ (l : List Commit). history (drop (f.base + 1) l)) (take_all (latest + 1) log (omega (arith, last)))
    ∙ above_parts log f.base n (omega (arith, base)) (omega (arith, within)) ∙ ap (λ (w : Log). above f.base n log ++ w) (sym is) in
    let from : first_of c (f.base + 1 + length (above f.base n log)) ws ≡ moved_up n found =
    ap (λ (v : ℕ). first_of c v ws) (length-above log f.base n (omega (arith, base)) (omega (arith, within)) ∙ (let e : n ≡ n + 0 = omega arith in e))
    ∙ first_of-moved c n 0 ws
    ∙ ap (moved_up n) (first_of-same c (conflict_by intent (live_in f.state)) 0 ws (λ w. append_clash intent (live_files (before (f.base + 1) log)) (live_in f.state) w none) ∙ sym at) in
    ap (first_of c (f.base + 1)) all ∙ first_of-append c (f.base + 1) (above f.base n log) ws
    ∙ nothing_before (first_of c (f.base + 1) (above f.base n log)) (first_of c (f.base + 1 + length (above f.base n log)) ws) (moved_up n found) clear from

-- the table goes on
pub caught_front : (tells : Bool) (intent : Intent) (f : Front) (w : Winners) (state : State) (log : List Commit) → intent.reads ≡ reads.None
    → IsFrontOf tells intent f log → AreWinners tells log f.latest w
    → None ≡ first_of (conflict_by intent (live_in f.state)) 0 (commits_of w.commits.items)
    → ((l : Log) → StandsFor f.state l → StandsFor state (l ++ commits_of w.commits.items))
    → IfSome (number_in state intent.app) (λ recorded. recorded <ℤ intent.number)
    → IsFrontOf tells intent (record { base = f.base; latest = w.latest; state = state }) log
caught_front tells intent f w state log none front won clear more newer =
    let last = won.latest in
    let count = won.count in
    let base = front.base in
    let stands : IsTrue tells → StandsFor state (before (w.latest + 1) log) = λ t.
    subst (StandsFor state) (with_winners log (f.latest + 1) w.latest (commits_of w.commits.items) last (won.actions t)) (more (before (f.latest + 1) log) (front.state t)) in
    record {
      within = omega (arith, last);
      base = omega (arith, base, count);
      state = stands;
      number_at_base = front.number_at_base;
      number = λ t. newer_of intent state (before (w.latest + 1) log) (stands t) newer;
      conflicts = λ t. clash_found intent f log w.latest (commits_of w.commits.items) None none base front.within last (won.actions t) (front.conflicts t) clear;
    }

-- a later number was recorded
pub caught_already : (tells : Bool) (intent : Intent) (f : Front) (w : Winners) (state : State) (log : List Commit) (recorded : ℤ)
    → IsFrontOf tells intent f log → AreWinners tells log f.latest w
    → ((l : Log) → StandsFor f.state l → StandsFor state (l ++ commits_of w.commits.items))
    → IsAtOrAbove intent (number_in state intent.app) recorded → IsAlready tells intent recorded w.latest log
caught_already tells intent f w state log recorded front won more at =
    let last = won.latest in
    let stands : IsTrue tells → StandsFor state (before (w.latest + 1) log) = λ t.
    subst (StandsFor state) (with_winners log (f.latest + 1) w.latest (commits_of w.commits.items) last (won.actions t)) (more (before (f.latest + 1) log) (front.state t)) in
    record {
      latest_is = omega (arith, last);
      reached = at.reached;
      number = λ t. sym (number_of intent state (before (w.latest + 1) log) (stands t)) ∙ at.recorded_is;
    }

-- a winner conflicts
pub caught_conflict : (tells : Bool) (intent : Intent) (f : Front) (w : Winners) (state : State) (log : List Commit) (place winner : ℕ) (named : Rule) (key : List ℕ) (vector : Option (List ℕ))
    → intent.reads ≡ reads.None → IsFrontOf tells intent f log → AreWinners tells log f.latest w
    → Some (place, (named, key, vector)) ≡ first_of (conflict_by intent (live_in f.state)) 0 (commits_of w.commits.items)
    → ((l : Log) → StandsFor f.state l → StandsFor state (l ++ commits_of w.commits.items))
    → IfSome (number_in state intent.app) (λ recorded. recorded <ℤ intent.number) → winner ≡ f.latest + 1 + place
    → IsConflict tells intent f.base winner named key vector w.latest log
caught_conflict tells intent f w state log place winner named key vector none front won clash more newer at =
    let last = won.latest in
    let count = won.count in
    let base = front.base in
    let some = first_of_within (conflict_by intent (live_in f.state)) 0 (commits_of w.commits.items) (place, (named, key, vector)) (sym clash) in
    let high = some.1 in
    let e : length (commits_of w.commits.items) ≡ length w.commits.items = length-map w.commits.items _ in
    let stands : IsTrue tells → StandsFor state (before (w.latest + 1) log) = λ t.
    subst (StandsFor state) (with_winners log (f.latest + 1) w.latest (commits_of w.commits.items) last (won.actions t)) (more (before (f.latest + 1) log) (front.state t)) in
    record {
      newer = record { ratified = omega (arith, last); number = λ t. newer_of intent state (before (w.latest + 1) log) (stands t) newer };
      from = omega (arith, base, at);
      to = omega (arith, at, high, e, count);
      first = λ t.
          clash_found intent f log w.latest (commits_of w.commits.items) (Some (place, (named, key, vector))) none base front.within last (won.actions t) (front.conflicts t) clash
          ∙ ap (λ (v : ℕ). let p : Option (ℕ × Said) = Some (v, (named, key, vector)) in p) (sym at);
    }

-- memory was short
pub memory_stands : (tells : Bool) (intent : Intent) (r : Result Outcome WriteError) (reading : ℤ) (last : ℕ) (log : List Commit)
    → IsErrAnd r (λ e. e ≡ failed.Memory) → AttemptStands tells intent r reading last log
memory_stands tells intent (Ok a) reading last log h = absurd h
memory_stands tells intent (Err e) reading last log h = subst (λ (x : WriteError). AttemptStands tells intent (Err x) reading last log) (sym h) tt

-- ---- one more commit applied

pub applied_more : (state : State) (log : Log) (cs : List (Vec Action Global)) (i : ℕ) (d : Vec Action Global) (c : List Action) → i < length cs → c ≡ (get_or cs i d).items
    → StandsFor state ((log ++ commits_of (take i cs)) ++ c ∷ []) → StandsFor state (log ++ commits_of (take (i + 1) cs))
applied_more state log cs i d c less is h =
    let all : commits_of (take (i + 1) cs) ≡ commits_of (take i cs) ++ c ∷ [] =
    ap commits_of (take_more cs i d less) ∙ map-append _ (take i cs) (get_or cs i d ∷ []) ∙ ap (λ (x : List Action). commits_of (take i cs) ++ x ∷ []) (sym is) in
    subst (StandsFor state) (append_assoc log (commits_of (take i cs)) (c ∷ []) ∙ ap (λ (l : Log). log ++ l) (sym all)) h

pub applied_none : (state : State) (log : Log) → StandsFor state log → StandsFor state (log ++ [])
applied_none state log h = subst (StandsFor state) (sym (append-nil log)) h

pub applied_all : (state : State) (log : Log) (cs : List (Vec Action Global)) (i : ℕ) → length cs ≤ i → StandsFor state (log ++ commits_of (take i cs)) → StandsFor state (log ++ commits_of cs)
applied_all state log cs i all h = subst (λ (l : List (Vec Action Global)). StandsFor state (log ++ commits_of l)) (take_all i cs all) h

-- the place is that of a winner
pub place_within : (conflict : List Action → Option Said) (ws : List (Vec Action Global)) (p : ℕ × Said) → first_of conflict 0 (commits_of ws) ≡ Some p → p.0 < length ws
place_within conflict ws p e =
    let b = first_of_within conflict 0 (commits_of ws) p e in
    let high = b.1 in
    let same : length (commits_of ws) ≡ length ws = length-map ws _ in
    omega (arith, high, same)
