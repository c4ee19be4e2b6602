-- Two files that tie in their order are one file; and a file that was noted.
use Rattle.std.proofs.Common.{◌≡◌, ℕ, List, true, ◌||◌, Option, Some, None, Result, Ok, Err, IfOk, Ordering, Less, Equal, Greater, refl, sym, ap, ap₂, ◌∙◌}
use Rattle.std.specs.BTreeSet.{BTreeSet, Updates}
use Rattle.std.specs.Ordering.{is_eq, ordering_then}
use Rattle.std.proofs.lemmas.Map.Text.{is_eq-slice_cmp}
use Rattle.std.proofs.lemmas.Slice.Eq.{bytes_eq-Decides}
use Rattle.action_types.specs.Files.{File, file_of_add, file_of_remove, name_cmp, id_cmp, file_cmp, same_file}
use Rattle.action_types.specs.declared.actions.Action.{Action}
use Rattle.action_types.specs.declared.actions.Action.TheVariants as action
use Rattle.action_types.specs.declared.actions.Add.{Add}
use Rattle.action_types.specs.declared.actions.Remove.{Remove}
use Rattle.action_json.specs.Commit.{double_of, if_some}
use Rattle.action_json.specs.Keys.{Noted, noted_cmp, contains_file, Knows}
use Rattle.action_json.specs.declared.keys.Keys.{Keys}
use Rattle.action_json.proofs.Members.{cond-or}

then_ties : (o p : Ordering) → is_eq (ordering_then o p) ≡ true → (is_eq o ≡ true) × (is_eq p ≡ true)
then_ties Less p h = absurd (cc)
then_ties Equal p h = (refl, h)
then_ties Greater p h = absurd (cc)

one_name : (xs ys : List ℕ) → is_eq (name_cmp xs ys) ≡ true → xs ≡ ys
one_name xs ys h = (bytes_eq-Decides xs ys).0 (sym (is_eq-slice_cmp xs ys) ∙ h)

one_id : (x y : Option (List ℕ)) → is_eq (id_cmp x y) ≡ true → x ≡ y
one_id None None h = refl
one_id None (Some y) h = absurd (cc)
one_id (Some x) None h = absurd (cc)
one_id (Some x) (Some y) h = ap Some (one_name x y h)

abbrev made : List ℕ → Option (List ℕ) → File
made path id = record { path = path; id = id }

pub one_file : (f g : File) → same_file f g ≡ true → f ≡ g
unfolding file_cmp
one_file f g h =
    let both = then_ties (name_cmp f.path g.path) (id_cmp f.id g.id) h in
    ap₂ made (one_name f.path g.path both.0) (one_id f.id g.id both.1)

pub noted : (path : List ℕ) (id : Option (List ℕ)) (f : File) (old new : BTreeSet Noted) → path ≡ f.path → id ≡ f.id → Updates noted_cmp old new (path, id) true
    → (q : File) → contains_file new q ≡ (contains_file old q || same_file f q)
unfolding file_cmp
noted path id f old new p i u q =
    u.0 (q.path, q.id) ∙ cond-or (is_eq (noted_cmp (path, id) (q.path, q.id))) (contains_file old q)
    ∙ ap₂ (λ (s : List ℕ) (t : Option (List ℕ)). contains_file old q || is_eq (noted_cmp (s, t) (q.path, q.id))) p i

-- what was noted of an add or a remove is its double
pub double-removed : {E : Type 0} (r : Result (Option (List ℕ)) E) (keys : Keys) (w : Remove) (a : Action) → a ≡ action.Remove w
    → IfOk r (λ o. o ≡ if_some (contains_file keys.files (file_of_remove w)) w.path) → IfOk r (λ o. (done : List Action) → Knows keys done → o ≡ double_of done a)
unfolding double_of
double-removed (Ok o) keys w a is e = λ done k. e ∙ ap (λ b. if_some b w.path) (k.files (file_of_remove w)) ∙ sym (ap (double_of done) is)
double-removed (Err x) keys w a is e = tt

pub double-added : {E : Type 0} (r : Result (Option (List ℕ)) E) (keys : Keys) (w : Add) (a : Action) → a ≡ action.Add w
    → IfOk r (λ o. o ≡ if_some (contains_file keys.files (file_of_add w)) w.path) → IfOk r (λ o. (done : List Action) → Knows keys done → o ≡ double_of done a)
unfolding double_of
double-added (Ok o) keys w a is e = λ done k. e ∙ ap (λ b. if_some b w.path) (k.files (file_of_add w)) ∙ sym (ap (double_of done) is)
double-added (Err x) keys w a is e = tt
