-- Members and files that are read one by one.
use Rattle.std.proofs.Common.{◌≡◌, ℕ, ◌+◌, ◌<◌, List, [], ◌∷◌, ◌++◌, length, get_or, take, drop, Bool, true, false, ◌||◌, ◌&&◌, not, if◌then◌else◌, Option, Some, None, option_map, option_and_then, suc, refl, sym, ap, ap₂, ◌∙◌, append_assoc, drop-cons, add-one}
use Rattle.std.specs.BTreeSet.{BTreeSet, Updates, contains}
use Rattle.std.specs.List.{list_any}
use Rattle.std.specs.Ordering.{is_eq}
use Rattle.std.proofs.lemmas.List.{take_more}
use Rattle.std.proofs.lemmas.List.Folds.{list_any-append}
use Rattle.json_tree.specs.View.{view, items_view, members_view}
use Rattle.json_tree.specs.declared.tree.Tree.{Tree}
use Rattle.json_tree.proofs.Entries.{Entry}
use Rattle.action_types.specs.declared.actions.Add.{Add}
use Rattle.action_fields.specs.Bodies.{body_of}
use Rattle.action_fields.specs.declared.kind.Kind.TheVariants as kind
use Rattle.action_types.specs.Files.{File, file_cmp, file_of_add}
use Rattle.staged_commit.specs.Adds.{are_new, has_file}
use Rattle.session_lines.specs.Members.{adds_in, as_add, is_other, other_member}
use Rattle.session_lines.specs.Names.{file_of_name, name_of_add, order}
use Rattle.session_lines.specs.declared.files.FileName.{FileName}
use Rattle.session_lines.specs.declared.op.Op.{Op}

-- ---- members

pub other-found : (o : Op) (e : Entry) (es all : List Entry) → all ≡ e ∷ es → is_other o (e.0.now) (view e.1) ≡ true
    → other_member o (members_view all) ≡ Some (e.0.now)
other-found o e es all cut is =
    ap (λ rest. other_member o (members_view rest)) cut ∙ ap (λ b. if b then Some (e.0.now) else other_member o (members_view es)) is

pub other-passed : (o : Op) (e : Entry) (es all : List Entry) → all ≡ e ∷ es → is_other o (e.0.now) (view e.1) ≡ false
    → other_member o (members_view all) ≡ other_member o (members_view es)
other-passed o e es all cut is =
    ap (λ rest. other_member o (members_view rest)) cut ∙ ap (λ b. if b then Some (e.0.now) else other_member o (members_view es)) is

-- ---- files

-- what was found, and behind it what is left
abbrev pub behind : List Add → Option (List Add) → Option (List Add)
behind done left = option_map (λ rest. done ++ rest) left

pub behind-nil : (left : Option (List Add)) → behind [] left ≡ left
behind-nil None = refl
behind-nil (Some rest) = refl

behind-one : (done : List Add) (a : Add) (left : Option (List Add)) → behind done (option_map (λ rest. a ∷ rest) left) ≡ behind (done ++ a ∷ []) left
behind-one done a None = refl
behind-one done a (Some rest) = ap Some (sym (append_assoc done (a ∷ []) rest))

at_item : {A : Type 0} (vs : List A) (i : ℕ) (v : A) → i < length vs → v ≡ get_or vs i v → drop i vs ≡ v ∷ drop (i + 1) vs
at_item vs i v h e = rw add-one (drop-cons vs i v h ∙ ap (λ w. w ∷ drop (suc i) vs) (sym e))

pub adds-more : (done : List Add) (vs : List Tree) (i : ℕ) (v : Tree) (a : Add) → i < length vs → v ≡ get_or vs i v → as_add (body_of kind.Add (view v)) ≡ Some a
    → behind done (adds_in (items_view (drop i vs))) ≡ behind (done ++ a ∷ []) (adds_in (items_view (drop (i + 1) vs)))
adds-more done vs i v a h e is =
    ap (λ rest. behind done (adds_in (items_view rest))) (at_item vs i v h e)
    ∙ ap (λ o. behind done (option_and_then (λ t. option_map (λ rest. t ∷ rest) (adds_in (items_view (drop (i + 1) vs)))) o)) is
    ∙ behind-one done a _

pub adds-none : (done : List Add) (vs : List Tree) (i : ℕ) (v : Tree) → i < length vs → v ≡ get_or vs i v → as_add (body_of kind.Add (view v)) ≡ None
    → behind done (adds_in (items_view (drop i vs))) ≡ None
adds-none done vs i v h e is =
    ap (λ rest. behind done (adds_in (items_view rest))) (at_item vs i v h e)
    ∙ ap (λ o. behind done (option_and_then (λ t. option_map (λ rest. t ∷ rest) (adds_in (items_view (drop (i + 1) vs)))) o)) is

-- ---- files that stand once

item_taken : (adds : List Add) (i : ℕ) (a : Add) → i < length adds → a ≡ get_or adds i a → take (i + 1) adds ≡ take i adds ++ a ∷ []
item_taken adds i a h e = take_more adds i a h ∙ ap (λ b. take i adds ++ b ∷ []) (sym e)

new-at : (adds : List Add) (i : ℕ) (a : Add) → i < length adds → a ≡ get_or adds i a
    → are_new (take i adds) (drop i adds) ≡ (not (list_any (has_file (file_of_add a)) (take i adds)) && are_new (take (i + 1) adds) (drop (i + 1) adds))
new-at adds i a h e =
    ap (λ rest. are_new (take i adds) rest) (at_item adds i a h e)
    ∙ ap (λ before. not (list_any (has_file (file_of_add a)) (take i adds)) && are_new before (drop (i + 1) adds)) (sym (item_taken adds i a h e))

pub new-more : (adds : List Add) (i : ℕ) (a : Add) → i < length adds → a ≡ get_or adds i a → list_any (has_file (file_of_add a)) (take i adds) ≡ false
    → are_new (take i adds) (drop i adds) ≡ are_new (take (i + 1) adds) (drop (i + 1) adds)
new-more adds i a h e is = new-at adds i a h e ∙ ap (λ b. not b && are_new (take (i + 1) adds) (drop (i + 1) adds)) is

pub new-again : (adds : List Add) (i : ℕ) (a : Add) → i < length adds → a ≡ get_or adds i a → list_any (has_file (file_of_add a)) (take i adds) ≡ true
    → are_new (take i adds) (drop i adds) ≡ false
new-again adds i a h e is = new-at adds i a h e ∙ ap (λ b. not b && are_new (take (i + 1) adds) (drop (i + 1) adds)) is

or-false : (b : Bool) → (b || false) ≡ b
or-false true = refl
or-false false = refl

cond-or : (b x : Bool) → (if b then true else x) ≡ (x || b)
cond-or true true = refl
cond-or true false = refl
cond-or false true = refl
cond-or false false = refl

known-more : (adds : List Add) (i : ℕ) (a : Add) (f : File) → i < length adds → a ≡ get_or adds i a
    → list_any (has_file f) (take (i + 1) adds) ≡ (list_any (has_file f) (take i adds) || has_file f a)
known-more adds i a f h e =
    ap (list_any (has_file f)) (item_taken adds i a h e) ∙ list_any-append (has_file f) (take i adds) (a ∷ [])
    ∙ ap (λ b. list_any (has_file f) (take i adds) || b) (or-false (has_file f a))

-- the names of a set are those of the adds before
abbrev pub Holds : BTreeSet FileName → List Add → Type 0
Holds names adds = (q : FileName) → contains order names q ≡ list_any (has_file (file_of_name q)) adds

order-file : (a : Add) (q : FileName) → is_eq (order (name_of_add a) q) ≡ has_file (file_of_name q) a
unfolding file_cmp
order-file a q = refl

-- and so they are with one add more
pub holds-more : (names more : BTreeSet FileName) (n : FileName) (adds : List Add) (i : ℕ) (a : Add) → i < length adds → a ≡ get_or adds i a → n ≡ name_of_add a
    → Updates order names more n true → Holds names (take i adds) → Holds more (take (i + 1) adds)
holds-more names more n adds i a h e same u held = λ q.
    u.0 q ∙ cond-or (is_eq (order n q)) (contains order names q)
    ∙ ap (λ (m : FileName). contains order names q || is_eq (order m q)) same
    ∙ ap₂ (λ (x y : Bool). x || y) (held q) (order-file a q)
    ∙ sym (known-more adds i a (file_of_name q) h e)

turned : (b new : Bool) → new ≡ not b → b ≡ not new
turned true new is = ap not (sym is)
turned false new is = ap not (sym is)

-- whether the name of an add is new
pub is-known : (names : BTreeSet FileName) (n : FileName) (adds : List Add) (i : ℕ) (a : Add) (new : Bool) → n ≡ name_of_add a → Holds names (take i adds)
    → new ≡ not (contains order names n) → list_any (has_file (file_of_add a)) (take i adds) ≡ not new
is-known names n adds i a new same held is =
    sym (ap (contains order names) same ∙ held (name_of_add a)) ∙ turned (contains order names n) new is
