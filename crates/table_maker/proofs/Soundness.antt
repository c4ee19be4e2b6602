-- Every script is sound.
use Rattle.std.proofs.Common.{◌≡◌, ◌≢◌, ℕ, zero, suc, ◌+◌, ◌%◌, ◌==◌, nat_lt, Bool, true, false, not, cond, List, [], ◌∷◌, ◌++◌, get_or, Option, Some, None, refl, sym, ◌∙◌, ap, subst, arith, append-nil, append_assoc}
use Rattle.std.specs.List.{All, filter}
use Rattle.std.proofs.lemmas.List.Sums.{fold-append}
use Rattle.std.proofs.lemmas.List.Elements.{All-nil, All-push, All-filter, All-head, filter_passes}
use Rattle.std.proofs.lemmas.Bool.Decides.{nat_tests}
use Rattle.table_maker.specs.Draws.{state_after, next_state, drawn}
use Rattle.table_maker.specs.Requests.{requests, next_request, remove_first, again, with_request, live_files, last_write, write_count}
use Rattle.table_maker.specs.Sound.{IsAdded, Fits, IsSoundAfter}
use Rattle.table_maker.specs.declared.request.Write.{Write}
use Rattle.table_maker.specs.declared.request.Write.TheVariants.{Add, Remove}
use Rattle.table_maker.specs.declared.request.Request.{Request}
use Rattle.table_maker.specs.declared.request.Request.TheVariants.{New, Again, Publish}

-- a request that does not remove the file keeps it added
kept : (before : List Request) (file : ℕ) (r : Request) → ((n : ℕ) → r ≢ New (Remove file n)) → IsAdded before file → IsAdded (before ++ r ∷ []) file
kept before file r other added =
    record {
      earlier = added.earlier;
      size = added.size;
      number = added.number;
      later = added.later ++ r ∷ [];
      split =
          ap (λ (rs : List Request). rs ++ r ∷ []) added.split
          ∙ append_assoc added.earlier (New (Add file added.size added.number) ∷ added.later) (r ∷ []);
      kept = All-push (λ (q : Request). (n : ℕ) → q ≢ New (Remove file n)) added.later r added.kept other;
    }

-- an add makes its file added
adds : (before : List Request) (file size number : ℕ) → IsAdded (before ++ New (Add file size number) ∷ []) file
adds before file size number =
    record {
      earlier = before;
      size = size;
      number = number;
      later = [];
      split = refl;
      kept = All-nil (λ (q : Request). (n : ℕ) → q ≢ New (Remove file n));
    }

live_push : (before : List Request) (r : Request) → live_files (before ++ r ∷ []) ≡ with_request (live_files before) r
live_push before r = fold-append with_request [] before (r ∷ [])

kept_all : (before : List Request) (r : Request) (files : List ℕ) → ((file : ℕ) (n : ℕ) → r ≢ New (Remove file n)) → All (IsAdded before) files
    → All (IsAdded (before ++ r ∷ [])) files
kept_all before r files other all = λ k d within. kept before (get_or files k d) r (other (get_or files k d)) (all k d within)

-- a file that stays is not the one that is removed
not_removed : (f file number n : ℕ) → not (f == file) ≡ true → New (Remove file number) ≢ New (Remove f n)
not_removed f file number n stays e =
    let same : file ≡ f = cc in let eq : (f == file) ≡ true = grind (arith, nat_tests) in cc

-- the live files after one request more are added, if those before it are
live_more : (before : List Request) (r : Request) → All (IsAdded before) (live_files before)
    → All (IsAdded (before ++ r ∷ [])) (with_request (live_files before) r)
live_more before (New (Add file size number)) all =
    All-push (IsAdded (before ++ New (Add file size number) ∷ [])) (live_files before) file
    (kept_all before (New (Add file size number)) (live_files before) (λ f n e. cc) all) (adds before file size number)
live_more before (New (Remove file number)) all =
    let stays : ℕ → Bool = λ (f : ℕ). not (f == file) in
    λ k d within.
    kept before (get_or (filter stays (live_files before)) k d) (New (Remove file number))
    (λ n. not_removed (get_or (filter stays (live_files before)) k d) file number n (filter_passes stays (live_files before) k d within))
    (All-filter stays (IsAdded before) (live_files before) all k d within)
live_more before (Again write) all = kept_all before (Again write) (live_files before) (λ f n e. cc) all
live_more before Publish all = kept_all before Publish (live_files before) (λ f n e. cc) all

-- each live file of a script's first requests is added there
live_added : (number k : ℕ) → All (IsAdded (requests number k)) (live_files (requests number k))
unfolding requests
live_added number zero = All-nil (IsAdded [])
live_added number (suc k) =
    let r : Request = next_request (requests number k) (k + 1) (drawn (next_state (state_after number k))) in
    subst (λ (files : List ℕ). All (IsAdded (requests number k ++ r ∷ [])) files) (sym (live_push (requests number k) r))
    (live_more (requests number k) r (live_added number k))

fits_remove : (before : List Request) (files : List ℕ) (other : Request) → All (IsAdded before) files → Fits before other
    → Fits before (remove_first files (write_count before + 1) other)
fits_remove before [] other all fits = fits
fits_remove before (file ∷ files) other all fits = (refl, All-head (IsAdded before) file files all)

fits_again : (before : List Request) (last : Option Write) (other : Request) → last_write before ≡ last → Fits before other → Fits before (again last other)
fits_again before None other e fits = fits
fits_again before (Some write) other e fits = e

fits_if : (before : List Request) (b : Bool) (x y : Request) → Fits before x → Fits before y → Fits before (cond b x y)
fits_if before true x y p q = p
fits_if before false x y p q = q

-- the next request fits what stands before it
fits_next : (before : List Request) (k d : ℕ) → All (IsAdded before) (live_files before) → Fits before (next_request before k d)
fits_next before k d all =
    let c : ℕ = d % 8 in let add : Request = New (Add k d (write_count before + 1)) in
    let remove : Request = remove_first (live_files before) (write_count before + 1) add in let again' : Request = again (last_write before) add in
    fits_if before (nat_lt c 5) add (cond (c == 5) remove (cond (c == 6) again' Publish)) refl
    (fits_if before (c == 5) remove (cond (c == 6) again' Publish) (fits_remove before (live_files before) add all refl)
    (fits_if before (c == 6) again' Publish (fits_again before (last_write before) add refl refl) tt))

sound_push : (before rs : List Request) (r : Request) → IsSoundAfter before rs → Fits (before ++ rs) r → IsSoundAfter before (rs ++ r ∷ [])
sound_push before [] r sound fits = (subst (λ (b : List Request). Fits b r) (append-nil before) fits, tt)
sound_push before (q ∷ rs) r sound fits =
    (sound.0, sound_push (before ++ q ∷ []) rs r sound.1 (subst (λ (b : List Request). Fits b r) (sym (append_assoc before (q ∷ []) rs)) fits))

-- each request of a script fits what stands before it
pub IsSoundAfter-requests : (number k : ℕ) → IsSoundAfter [] (requests number k)
unfolding requests
IsSoundAfter-requests number zero = tt
IsSoundAfter-requests number (suc k) =
    sound_push [] (requests number k) (next_request (requests number k) (k + 1) (drawn (next_state (state_after number k)))) (IsSoundAfter-requests number k)
    (fits_next (requests number k) (k + 1) (drawn (next_state (state_after number k))) (live_added number k))
