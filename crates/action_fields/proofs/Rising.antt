-- Names in byte order, and members that are put in at their place.
use Rattle.std.proofs.Common.{◌≡◌, ℕ, List, [], ◌∷◌, true, Ordering, Less, Equal, Greater, nat_cmp, refl, ap, ◌∙◌}
use Rattle.std.proofs.lemmas.Bool.{and_parts, and_from}
use Rattle.std.proofs.lemmas.Cmp.{nat_list_cmp_total}
use Rattle.std.specs.Cmp.Lexicographic.{slice_cmp}
use Rattle.std.specs.List.{list_all}
use Rattle.std.specs.Ordering.{is_lt, match_ordering, ordering_reverse}
use Rattle.serde_json.specs.Data.{Data, Members, no_members, member, put}
use Rattle.action_fields.specs.Ordered.{names_of, is_below, are_rising, is_ordered, members_are_ordered}

is_less : (o : Ordering) → is_lt o ≡ true → o ≡ Less
is_less Less h = refl
is_less Equal h = absurd (cc)
is_less Greater h = absurd (cc)

pub less : (k l : List ℕ) → is_below k l ≡ true → slice_cmp nat_cmp k l ≡ Less
less k l h = is_less (slice_cmp nat_cmp k l) h

-- below what is above
pub below_all : (k l : List ℕ) (ks : List (List ℕ)) → is_below k l ≡ true → list_all (is_below l) ks ≡ true → list_all (is_below k) ks ≡ true
below_all k l [] h rest = refl
below_all k l (m ∷ ks) h rest =
    let p = and_parts (is_below l m) (list_all (is_below l) ks) rest in
    and_from _ _ (ap is_lt (nat_list_cmp_total.trans k l m (less k l h) (less l m p.0))) (below_all k l ks h p.1)

from_greater : (k l : List ℕ) → slice_cmp nat_cmp k l ≡ Greater → is_below l k ≡ true
from_greater k l h = ap is_lt (nat_list_cmp_total.antisymm l k ∙ ap ordering_reverse h)

pub greater : (k l : List ℕ) → is_below l k ≡ true → slice_cmp nat_cmp k l ≡ Greater
greater k l h = nat_list_cmp_total.antisymm k l ∙ ap ordering_reverse (less l k h)

from_equal : (j k l : List ℕ) → slice_cmp nat_cmp k l ≡ Equal → is_below k j ≡ is_below l j
from_equal j k l h = ap is_lt (nat_list_cmp_total.congr k l j h)

same_below : (k l : List ℕ) (ks : List (List ℕ)) → slice_cmp nat_cmp k l ≡ Equal → list_all (is_below l) ks ≡ true → list_all (is_below k) ks ≡ true
same_below k l [] h all = refl
same_below k l (m ∷ ks) h all =
    let p = and_parts (is_below l m) (list_all (is_below l) ks) all in
    and_from _ _ (from_equal m k l h ∙ p.0) (same_below k l ks h p.1)

-- ---- a member that is put in

below-at : (o : Ordering) (j k l : List ℕ) (d e : Data) (ms : Members) → is_below j k ≡ true → is_below j l ≡ true → list_all (is_below j) (names_of ms) ≡ true
    → list_all (is_below j) (names_of (put k d ms)) ≡ true
    → list_all (is_below j) (names_of (match_ordering o (member k d (member l e ms)) (member l d ms) (member l e (put k d ms)))) ≡ true
below-at Less j k l d e ms first second rest later = and_from _ _ first (and_from _ _ second rest)
below-at Equal j k l d e ms first second rest later = and_from _ _ second rest
below-at Greater j k l d e ms first second rest later = and_from _ _ second later

below-put : (j k : List ℕ) (d : Data) (ms : Members) → is_below j k ≡ true → list_all (is_below j) (names_of ms) ≡ true → list_all (is_below j) (names_of (put k d ms)) ≡ true
below-put j k d no_members first all = and_from _ _ first refl
below-put j k d (member l e ms) first all =
    let p = and_parts (is_below j l) (list_all (is_below j) (names_of ms)) all in
    below-at (slice_cmp nat_cmp k l) j k l d e ms first p.0 p.1 (below-put j k d ms first p.1)

rising-at : (o : Ordering) (k l : List ℕ) (d e : Data) (ms : Members) → slice_cmp nat_cmp k l ≡ o → list_all (is_below l) (names_of ms) ≡ true → are_rising (names_of ms) ≡ true
    → are_rising (names_of (put k d ms)) ≡ true
    → are_rising (names_of (match_ordering o (member k d (member l e ms)) (member l d ms) (member l e (put k d ms)))) ≡ true
rising-at Less k l d e ms is above rest later =
    let here : is_below k l ≡ true = ap is_lt is in
    and_from _ _ (and_from _ _ here (below_all k l (names_of ms) here above)) (and_from _ _ above rest)
rising-at Equal k l d e ms is above rest later = and_from _ _ above rest
rising-at Greater k l d e ms is above rest later = and_from _ _ (below-put l k d ms (from_greater k l is) above) later

pub rising-put : (k : List ℕ) (d : Data) (ms : Members) → are_rising (names_of ms) ≡ true → are_rising (names_of (put k d ms)) ≡ true
rising-put k d no_members h = refl
rising-put k d (member l e ms) h =
    let p = and_parts (list_all (is_below l) (names_of ms)) (are_rising (names_of ms)) h in
    rising-at (slice_cmp nat_cmp k l) k l d e ms refl p.0 p.1 (rising-put k d ms p.1)

ordered-at : (o : Ordering) (k l : List ℕ) (d e : Data) (ms : Members) → is_ordered d ≡ true → is_ordered e ≡ true → members_are_ordered ms ≡ true → members_are_ordered (put k d ms) ≡ true
    → members_are_ordered (match_ordering o (member k d (member l e ms)) (member l d ms) (member l e (put k d ms))) ≡ true
ordered-at Less k l d e ms new old rest later = and_from _ _ new (and_from _ _ old rest)
ordered-at Equal k l d e ms new old rest later = and_from _ _ new rest
ordered-at Greater k l d e ms new old rest later = and_from _ _ old later

pub ordered-put : (k : List ℕ) (d : Data) (ms : Members) → is_ordered d ≡ true → members_are_ordered ms ≡ true → members_are_ordered (put k d ms) ≡ true
ordered-put k d no_members new all = and_from _ _ new refl
ordered-put k d (member l e ms) new all =
    let p = and_parts (is_ordered e) (members_are_ordered ms) all in
    ordered-at (slice_cmp nat_cmp k l) k l d e ms new p.0 p.1 (ordered-put k d ms new p.1)
