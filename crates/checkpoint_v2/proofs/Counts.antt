-- Actions have no doubles exactly where none has a key in common with those before it.
use Rattle.std.proofs.Common.{◌≡◌, ℕ, ◌+◌, ◌≤◌, List, [], ◌∷◌, ◌++◌, Bool, true, false, cond, ◌||◌, None, refl, sym, ap, ◌∙◌, subst, arith}
use Rattle.std.specs.List.{list_any, count_by}
use Rattle.std.proofs.lemmas.List.Sums.{sum_by-append, sum_by-cons}
use Rattle.std.proofs.lemmas.Slice.Eq.{bytes_eq-Decides}
use Rattle.std.proofs.lemmas.Cmp.{eq_by_cmp_equiv}
use Rattle.action_types.specs.declared.actions.Action.{Action}
use Rattle.action_types.specs.declared.actions.Action.TheVariants as action
use Rattle.action_types.specs.Files.{File, file_of_add, file_of_remove, file_cmp_total, same_file}
use Rattle.action_json.specs.Commit.{mentions, is_of_app, is_of_domain, is_info, is_protocol, is_meta, double_of, if_some}
use Rattle.action_json.proofs.Files.{one_file}
use Rattle.checkpoint_v2.specs.Text.{HasNoDoubles}

-- ---- how many pass a test

abbrev pub one : Bool → ℕ
one b = cond b 1 0

pub one-false : (b : Bool) → b ≡ false → one b ≡ 0
one-false b h = ap one h

pub count-cons : {X : Type 0} (test : X → Bool) (x : X) (xs : List X) → count_by test (x ∷ xs) ≡ one (test x) + count_by test xs
count-cons test x xs = sum_by-cons (λ y. cond (test y) 1 0) x xs

pub count-append : {X : Type 0} (test : X → Bool) (xs ys : List X) → count_by test (xs ++ ys) ≡ count_by test xs + count_by test ys
count-append test xs ys = sum_by-append (λ y. cond (test y) 1 0) xs ys

none-step : (b c : Bool) (n : ℕ) → (c ≡ false → n ≡ 0) → (b || c) ≡ false → one b + n ≡ 0
none-step true c n k h = absurd (cc)
none-step false c n k h = let none : n ≡ 0 = k h in omega arith

pub count-none : {X : Type 0} (test : X → Bool) (xs : List X) → list_any test xs ≡ false → count_by test xs ≡ 0
count-none test [] h = refl
count-none test (x ∷ xs) h = count-cons test x xs ∙ none-step (test x) (list_any test xs) (count_by test xs) (count-none test xs) h

zero-step : (b c : Bool) (n : ℕ) → (n ≡ 0 → c ≡ false) → one b + n ≡ 0 → (b || c) ≡ false
zero-step true c n k h = absurd (omega arith)
zero-step false c n k h = let none : n ≡ 0 = omega arith in k none

pub none-count : {X : Type 0} (test : X → Bool) (xs : List X) → count_by test xs ≡ 0 → list_any test xs ≡ false
none-count test [] h = refl
none-count test (x ∷ xs) h = zero-step (test x) (list_any test xs) (count_by test xs) (none-count test xs) (sym (count-cons test x xs) ∙ h)

push-at : {X : Type 0} (test : X → Bool) (xs : List X) (x : X) (b : Bool) → test x ≡ b → count_by test xs ≤ 1 → (test x ≡ true → list_any test xs ≡ false)
    → count_by test xs + (one (test x) + count_by test []) ≤ 1
push-at test xs x true e h new = let none : count_by test xs ≡ 0 = count-none test xs (new e) in rw e (omega arith)
push-at test xs x false e h new = rw e (omega arith)

-- one more at the end, where none of those before it passes if it does
pub at_most_one-push : {X : Type 0} (test : X → Bool) (xs : List X) (x : X) → count_by test xs ≤ 1 → (test x ≡ true → list_any test xs ≡ false) → count_by test (xs ++ x ∷ []) ≤ 1
at_most_one-push test xs x h new =
    subst (λ (n : ℕ). n ≤ 1) (sym (count-append test xs (x ∷ []) ∙ ap (λ n. count_by test xs + n) (count-cons test x []))) (push-at test xs x (test x) refl h new)

-- of those before one that passes none does
pub front-none : {X : Type 0} (test : X → Bool) (xs : List X) (x : X) (rest : List X) → count_by test (xs ++ x ∷ rest) ≤ 1 → test x ≡ true → list_any test xs ≡ false
front-none test xs x rest h e =
    let all : count_by test (xs ++ x ∷ rest) ≡ count_by test xs + (one (test x) + count_by test rest) = count-append test xs (x ∷ rest) ∙ ap (λ n. count_by test xs + n) (count-cons test x rest) in
    let here : one (test x) ≡ 1 = ap (λ b. one b) e in
    none-count test xs (omega arith)

-- ---- no key is in common

none-some : (b : Bool) (key : List ℕ) → if_some b key ≡ None → b ≡ false
none-some true key h = absurd (cc)
none-some false key h = refl

some-none : (b : Bool) (key : List ℕ) → b ≡ false → if_some b key ≡ None
some-none b key h = ap (λ c. if_some c key) h

new-file : (file : File) (done : List Action) (a : Action) → double_of done a ≡ None → mentions file a ≡ true → list_any (mentions file) done ≡ false
unfolding double_of
new-file file done (action.Info a) e h = absurd (cc)
new-file file done (action.Protocol a) e h = absurd (cc)
new-file file done (action.Meta a) e h = absurd (cc)
new-file file done (action.Txn a) e h = absurd (cc)
new-file file done (action.Domain a) e h = absurd (cc)
new-file file done (action.Remove a) e h = subst (λ (f : File). list_any (mentions f) done ≡ false) (one_file (file_of_remove a) file h) (none-some (list_any (mentions (file_of_remove a)) done) a.path e)
new-file file done (action.Add a) e h = subst (λ (f : File). list_any (mentions f) done ≡ false) (one_file (file_of_add a) file h) (none-some (list_any (mentions (file_of_add a)) done) a.path e)

new-app : (app : List ℕ) (done : List Action) (a : Action) → double_of done a ≡ None → is_of_app app a ≡ true → list_any (is_of_app app) done ≡ false
unfolding double_of
new-app app done (action.Info a) e h = absurd (cc)
new-app app done (action.Protocol a) e h = absurd (cc)
new-app app done (action.Meta a) e h = absurd (cc)
new-app app done (action.Txn a) e h = subst (λ (n : List ℕ). list_any (is_of_app n) done ≡ false) ((bytes_eq-Decides a.app app).0 h) (none-some (list_any (is_of_app a.app) done) a.app e)
new-app app done (action.Domain a) e h = absurd (cc)
new-app app done (action.Remove a) e h = absurd (cc)
new-app app done (action.Add a) e h = absurd (cc)

new-domain : (domain : List ℕ) (done : List Action) (a : Action) → double_of done a ≡ None → is_of_domain domain a ≡ true → list_any (is_of_domain domain) done ≡ false
unfolding double_of
new-domain domain done (action.Info a) e h = absurd (cc)
new-domain domain done (action.Protocol a) e h = absurd (cc)
new-domain domain done (action.Meta a) e h = absurd (cc)
new-domain domain done (action.Txn a) e h = absurd (cc)
new-domain domain done (action.Domain a) e h = subst (λ (n : List ℕ). list_any (is_of_domain n) done ≡ false) ((bytes_eq-Decides a.domain domain).0 h) (none-some (list_any (is_of_domain a.domain) done) a.domain e)
new-domain domain done (action.Remove a) e h = absurd (cc)
new-domain domain done (action.Add a) e h = absurd (cc)

new-protocol : (done : List Action) (a : Action) → double_of done a ≡ None → is_protocol a ≡ true → list_any is_protocol done ≡ false
unfolding double_of
new-protocol done (action.Info a) e h = absurd (cc)
new-protocol done (action.Protocol a) e h = none-some (list_any is_protocol done) [] e
new-protocol done (action.Meta a) e h = absurd (cc)
new-protocol done (action.Txn a) e h = absurd (cc)
new-protocol done (action.Domain a) e h = absurd (cc)
new-protocol done (action.Remove a) e h = absurd (cc)
new-protocol done (action.Add a) e h = absurd (cc)

new-meta : (done : List Action) (a : Action) → double_of done a ≡ None → is_meta a ≡ true → list_any is_meta done ≡ false
unfolding double_of
new-meta done (action.Info a) e h = absurd (cc)
new-meta done (action.Protocol a) e h = absurd (cc)
new-meta done (action.Meta a) e h = none-some (list_any is_meta done) [] e
new-meta done (action.Txn a) e h = absurd (cc)
new-meta done (action.Domain a) e h = absurd (cc)
new-meta done (action.Remove a) e h = absurd (cc)
new-meta done (action.Add a) e h = absurd (cc)

new-info : (done : List Action) (a : Action) → double_of done a ≡ None → is_info a ≡ true → list_any is_info done ≡ false
unfolding double_of
new-info done (action.Info a) e h = none-some (list_any is_info done) [] e
new-info done (action.Protocol a) e h = absurd (cc)
new-info done (action.Meta a) e h = absurd (cc)
new-info done (action.Txn a) e h = absurd (cc)
new-info done (action.Domain a) e h = absurd (cc)
new-info done (action.Remove a) e h = absurd (cc)
new-info done (action.Add a) e h = absurd (cc)

pub HasNoDoubles-nil : HasNoDoubles []
HasNoDoubles-nil = record { file = λ f. omega arith; app = λ q. omega arith; domain = λ q. omega arith; protocol = omega arith; meta = omega arith; info = omega arith }

-- one more action that has no key in common with those before it
pub HasNoDoubles-push : (done : List Action) (a : Action) → HasNoDoubles done → double_of done a ≡ None → HasNoDoubles (done ++ a ∷ [])
HasNoDoubles-push done a h e = record {
  file = λ f. at_most_one-push (mentions f) done a (h.file f) (new-file f done a e);
  app = λ q. at_most_one-push (is_of_app q) done a (h.app q) (new-app q done a e);
  domain = λ q. at_most_one-push (is_of_domain q) done a (h.domain q) (new-domain q done a e);
  protocol = at_most_one-push is_protocol done a h.protocol (new-protocol done a e);
  meta = at_most_one-push is_meta done a h.meta (new-meta done a e);
  info = at_most_one-push is_info done a h.info (new-info done a e);
}

same_itself : (f : File) → same_file f f ≡ true
same_itself f = (eq_by_cmp_equiv file_cmp_total).refl f

-- an action among others without doubles has no key in common with those before it
pub no_double-before : (done : List Action) (a : Action) (rest : List Action) → HasNoDoubles (done ++ a ∷ rest) → double_of done a ≡ None
unfolding double_of
no_double-before done (action.Info a) rest h = some-none (list_any is_info done) [] (front-none is_info done (action.Info a) rest h.info refl)
no_double-before done (action.Protocol a) rest h = some-none (list_any is_protocol done) [] (front-none is_protocol done (action.Protocol a) rest h.protocol refl)
no_double-before done (action.Meta a) rest h = some-none (list_any is_meta done) [] (front-none is_meta done (action.Meta a) rest h.meta refl)
no_double-before done (action.Txn a) rest h =
    some-none (list_any (is_of_app a.app) done) a.app (front-none (is_of_app a.app) done (action.Txn a) rest (h.app a.app) ((bytes_eq-Decides a.app a.app).1 refl))
no_double-before done (action.Domain a) rest h =
    some-none (list_any (is_of_domain a.domain) done) a.domain (front-none (is_of_domain a.domain) done (action.Domain a) rest (h.domain a.domain) ((bytes_eq-Decides a.domain a.domain).1 refl))
no_double-before done (action.Remove a) rest h =
    some-none (list_any (mentions (file_of_remove a)) done) a.path (front-none (mentions (file_of_remove a)) done (action.Remove a) rest (h.file (file_of_remove a)) (same_itself (file_of_remove a)))
no_double-before done (action.Add a) rest h =
    some-none (list_any (mentions (file_of_add a)) done) a.path (front-none (mentions (file_of_add a)) done (action.Add a) rest (h.file (file_of_add a)) (same_itself (file_of_add a)))
