-- The canonical line of an action with valid fields is one line, and is read as the action's data.
use Rattle.std.proofs.Common.{◌≡◌, ◌≢◌, ℕ, ℤ, ◌+◌, ◌≤◌, List, [], ◌∷◌, ◌++◌, Bool, true, false, ◌&&◌, map, Option, Some, None, is_some, option_map, IfSome, refl, arith}
use Rattle.std.specs.Prelude.{⊤}
use Rattle.std.proofs.lemmas.Bool.{and_parts, and_from}
use Rattle.std.proofs.lemmas.List.Elements.{All-nil, All-cons, All-append}
use Rattle.std.specs.List.{list_all}
use Rattle.std.specs.Option.{option_map_or}
use Rattle.json.specs.Print.{quoted}
use Rattle.serde_json.specs.Data.{Data, null, boolean, number, string, array, object, Items, no_items, item, Members, no_members, member, depth, items_depth, members_depth}
use Rattle.serde_json.specs.Read.{read}
use Rattle.serde_json.specs.Written.{comma_if, compact_text, items_text, members_text}
use Rattle.action_types.specs.declared.actions.Action.{Action}
use Rattle.action_types.specs.declared.actions.Action.TheVariants as action
use Rattle.action_types.specs.declared.actions.Format.{Format}
use Rattle.action_types.specs.declared.actions.Vector.{Vector}
use Rattle.action_fields.specs.Canonical.{Fields, with_field, with_fields, integer_data, texts_items, names_data, value_data, pairs_members, pairs_data, format_fields, format_data, vector_fields, vector_data, body_data, action_fields, action_data, canonical_line}
use Rattle.action_fields.specs.Fits.{Fits, FitsIfGiven, VectorFits, VectorFitsIfGiven, HasFittingFields}
use Rattle.action_fields.specs.Ordered.{names_of, is_below, are_rising}
use Rattle.action_fields.specs.Types.{Pair}
use Rattle.action_fields.specs.Valid.{is_from_zero, is_not_empty, are_in_order, are_texts, is_valid_vector, has_valid_fields}
use Rattle.action_fields.proofs.Again.{IsSound, ItemsAreSound, MembersAreSound, IsSound-integer, read-compact_text}
use Rattle.action_fields.proofs.OneLine.{IsOneLine, one_line-literal, one_line-quoted}
use Rattle.action_fields.proofs.Rising.{below_all}

-- ---- a sound value is written on one line

abbrev P : ℕ → Type 0
P b = b ≢ 10

one_line-comma : (later : Bool) → IsOneLine (comma_if later)
one_line-comma true = All-cons P 44 [] (λ z. absurd (omega arith)) (All-nil P)
one_line-comma false = All-nil P

mutual
  one_line-compact_text : (d : Data) → IsSound d → IsOneLine (compact_text d)
  one_line-compact_text null h = one_line-literal (compact_text null) refl
  one_line-compact_text (boolean true) h = one_line-literal (compact_text (boolean true)) refl
  one_line-compact_text (boolean false) h = one_line-literal (compact_text (boolean false)) refl
  one_line-compact_text (number n) h = h.2
  one_line-compact_text (string s) h = one_line-quoted s
  one_line-compact_text (array ds) h = All-cons P 91 (items_text false ds) (λ z. absurd (omega arith)) (one_line-items_text false ds h)
  one_line-compact_text (object ms) h = All-cons P 123 (members_text false ms) (λ z. absurd (omega arith)) (one_line-members_text false ms h.1)

  one_line-items_text : (later : Bool) (ds : Items) → ItemsAreSound ds → IsOneLine (items_text later ds)
  one_line-items_text later no_items h = All-cons P 93 [] (λ z. absurd (omega arith)) (All-nil P)
  one_line-items_text later (item d ds) h =
      All-append P (comma_if later) (compact_text d ++ items_text true ds) (one_line-comma later) (All-append P (compact_text d) (items_text true ds) (one_line-compact_text d h.0) (one_line-items_text true ds h.1))

  one_line-members_text : (later : Bool) (ms : Members) → MembersAreSound ms → IsOneLine (members_text later ms)
  one_line-members_text later no_members h = All-cons P 125 [] (λ z. absurd (omega arith)) (All-nil P)
  one_line-members_text later (member k d ms) h =
      All-append P (comma_if later) (quoted k ++ 58 ∷ (compact_text d ++ members_text true ms)) (one_line-comma later)
      (All-append P (quoted k) (58 ∷ (compact_text d ++ members_text true ms)) (one_line-quoted k)
      (All-cons P 58 (compact_text d ++ members_text true ms) (λ z. absurd (omega arith)) (All-append P (compact_text d) (members_text true ms) (one_line-compact_text d h.0) (one_line-members_text true ms h.1))))

-- ---- values that are sound and nest at most n deep

record IsFine (n : ℕ) (d : Data) : Type 0 where
  sound : IsSound d
  shallow : depth d ≤ n

-- facts side by side, one for each field
infixr 5 ◌▸◌
abbrev ◌▸◌ : {A B : Type 0} → A → B → A × B
a ▸ b = (a, b)

abbrev AreFine : ℕ → Fields → Type 0
AreFine n [] = ⊤
AreFine n (f ∷ fs) = IfSome f.1 (IsFine n) × AreFine n fs

one_sound : (n : ℕ) (k : List ℕ) (o : Option Data) (ms : Members) → IfSome o (IsFine n) → MembersAreSound ms → MembersAreSound (with_field k o ms)
one_sound n k None ms h rest = rest
one_sound n k (Some d) ms h rest = (h.sound, rest)

sound-with_fields : (n : ℕ) (fs : Fields) → AreFine n fs → MembersAreSound (with_fields fs)
sound-with_fields n [] h = tt
sound-with_fields n (f ∷ fs) h = one_sound n f.0 f.1 (with_fields fs) h.0 (sound-with_fields n fs h.1)

one_shallow : (n : ℕ) (k : List ℕ) (o : Option Data) (ms : Members) → IfSome o (IsFine n) → members_depth ms ≤ n → members_depth (with_field k o ms) ≤ n
one_shallow n k None ms h rest = rest
one_shallow n k (Some d) ms h rest = omega (arith, h.shallow)

depth-with_fields : (n : ℕ) (fs : Fields) → AreFine n fs → members_depth (with_fields fs) ≤ n
depth-with_fields n [] h = omega arith
depth-with_fields n (f ∷ fs) h = one_shallow n f.0 f.1 (with_fields fs) h.0 (depth-with_fields n fs h.1)

abbrev field_names : Fields → List (List ℕ)
field_names fs = map (λ f. f.0) fs

one_below : (k name : List ℕ) (o : Option Data) (ms : Members) → is_below k name ≡ true → list_all (is_below k) (names_of ms) ≡ true → list_all (is_below k) (names_of (with_field name o ms)) ≡ true
one_below k name None ms first rest = rest
one_below k name (Some d) ms first rest = and_from (is_below k name) (list_all (is_below k) (names_of ms)) first rest

below-with_fields : (k : List ℕ) (fs : Fields) → list_all (is_below k) (field_names fs) ≡ true → list_all (is_below k) (names_of (with_fields fs)) ≡ true
below-with_fields k [] h = refl
below-with_fields k (f ∷ fs) h =
    let p = and_parts (is_below k f.0) (list_all (is_below k) (field_names fs)) h in
    one_below k f.0 f.1 (with_fields fs) p.0 (below-with_fields k fs p.1)

one_rising : (name : List ℕ) (o : Option Data) (ms : Members) → list_all (is_below name) (names_of ms) ≡ true → are_rising (names_of ms) ≡ true → are_rising (names_of (with_field name o ms)) ≡ true
one_rising name None ms above rest = rest
one_rising name (Some d) ms above rest = and_from (list_all (is_below name) (names_of ms)) (are_rising (names_of ms)) above rest

rising-with_fields : (fs : Fields) → are_rising (field_names fs) ≡ true → are_rising (names_of (with_fields fs)) ≡ true
rising-with_fields [] h = refl
rising-with_fields (f ∷ fs) h =
    let p = and_parts (list_all (is_below f.0) (field_names fs)) (are_rising (field_names fs)) h in
    one_rising f.0 f.1 (with_fields fs) (below-with_fields f.0 fs p.0) (rising-with_fields fs p.1)

fine_object : (n : ℕ) (fs : Fields) → are_rising (field_names fs) ≡ true → AreFine n fs → IsFine (n + 1) (object (with_fields fs))
fine_object n fs rising h = record { sound = (rising-with_fields fs rising, sound-with_fields n fs h); shallow = omega (arith, depth-with_fields n fs h) }

-- ---- the types of fields

fine_integer_at : (n : ℕ) (z : ℤ) → Fits z → IsFine n (integer_data z)
fine_integer_at n z h = record { sound = IsSound-integer z h; shallow = omega arith }

fine_integer : (z : ℤ) → Fits z → IsFine 2 (integer_data z)
fine_integer z h = fine_integer_at 2 z h

fine_string_at : (n : ℕ) (s : List ℕ) → IsFine n (string s)
fine_string_at n s = record { sound = tt; shallow = omega arith }

fine_string : (s : List ℕ) → IsFine 2 (string s)
fine_string s = fine_string_at 2 s

fine_flag : (b : Bool) → IsFine 2 (boolean b)
fine_flag b = record { sound = tt; shallow = omega arith }

sound_texts : (ss : List (List ℕ)) → ItemsAreSound (texts_items ss)
sound_texts [] = tt
sound_texts (s ∷ ss) = (tt, sound_texts ss)

depth_texts : (ss : List (List ℕ)) → items_depth (texts_items ss) ≤ 0
depth_texts [] = omega arith
depth_texts (s ∷ ss) = omega (arith, depth_texts ss)

fine_names : (ss : List (List ℕ)) → IsFine 2 (names_data ss)
fine_names ss = record { sound = sound_texts ss; shallow = omega (arith, depth_texts ss) }

sound_value : (v : Option (List ℕ)) → IsSound (value_data v)
sound_value None = tt
sound_value (Some s) = tt

depth_value : (v : Option (List ℕ)) → depth (value_data v) ≤ 0
depth_value None = omega arith
depth_value (Some s) = omega arith

sound_pairs : (ps : List Pair) → MembersAreSound (pairs_members ps)
sound_pairs [] = tt
sound_pairs (p ∷ ps) = (sound_value p.1, sound_pairs ps)

depth_pairs : (ps : List Pair) → members_depth (pairs_members ps) ≤ 0
depth_pairs [] = omega arith
depth_pairs (p ∷ ps) = omega (arith, depth_value p.1, depth_pairs ps)

rising_pairs : (ps : List Pair) → are_in_order ps ≡ true → are_rising (names_of (pairs_members ps)) ≡ true
rising_pairs [] h = refl
rising_pairs (p ∷ []) h = refl
rising_pairs (p ∷ q ∷ ps) h =
    let both = and_parts (is_below p.0 q.0) (are_in_order (q ∷ ps)) h in
    let later = rising_pairs (q ∷ ps) both.1 in
    let above = and_parts (list_all (is_below q.0) (names_of (pairs_members ps))) (are_rising (names_of (pairs_members ps))) later in
    and_from (is_below p.0 q.0 && list_all (is_below p.0) (names_of (pairs_members ps))) (are_rising (names_of (pairs_members (q ∷ ps))))
    (and_from (is_below p.0 q.0) (list_all (is_below p.0) (names_of (pairs_members ps))) both.0 (below_all p.0 q.0 (names_of (pairs_members ps)) both.0 above.0)) later

fine_pairs_at : (n : ℕ) (ps : List Pair) → 1 ≤ n → are_in_order ps ≡ true → IsFine n (pairs_data ps)
fine_pairs_at n ps some h = record { sound = (rising_pairs ps h, sound_pairs ps); shallow = omega (arith, depth_pairs ps) }

fine_pairs : (ps : List Pair) → are_in_order ps ≡ true → IsFine 2 (pairs_data ps)
fine_pairs ps h = fine_pairs_at 2 ps (omega arith) h

fine_format : (w : Format) → are_in_order w.options ≡ true → IsFine 2 (format_data w)
fine_format w h = fine_object 1 (format_fields w) refl (fine_pairs_at 1 w.options (omega arith) h ▸ record { sound = tt; shallow = omega arith } ▸ tt)

made : {W : Type 0} (make : W → Data) (o : Option W) → ((w : W) → IsFine 2 (make w)) → IfSome (option_map make o) (IsFine 2)
made make None h = tt
made make (Some w) h = h w

made_integer_at : (n : ℕ) (o : Option ℤ) → FitsIfGiven o → IfSome (option_map integer_data o) (IsFine n)
made_integer_at n None h = tt
made_integer_at n (Some z) h = fine_integer_at n z h

made_integer : (o : Option ℤ) → FitsIfGiven o → IfSome (option_map integer_data o) (IsFine 2)
made_integer o h = made_integer_at 2 o h

made_pairs : (o : Option (List Pair)) → option_map_or are_in_order o true ≡ true → IfSome (option_map pairs_data o) (IsFine 2)
made_pairs None h = tt
made_pairs (Some ps) h = fine_pairs ps h

fine_vector : (w : Vector) → VectorFits w → IsFine 2 (vector_data w)
fine_vector w h =
    fine_object 1 (vector_fields w) refl
    (fine_integer_at 1 w.cardinality h.0 ▸ made_integer_at 1 w.offset h.1 ▸ fine_string_at 1 w.locator ▸ fine_integer_at 1 w.size h.2 ▸ fine_string_at 1 w.storage ▸ tt)

made_vector : (o : Option Vector) → VectorFitsIfGiven o → IfSome (option_map vector_data o) (IsFine 2)
made_vector None h = tt
made_vector (Some w) h = fine_vector w h

in_order : (ps : List Pair) → are_texts ps ≡ true → are_in_order ps ≡ true
in_order ps h = (and_parts (are_in_order ps) (list_all (λ (p : Pair). is_some p.1) ps) h).0

-- ---- bodies and lines

fine_body : (a : Action) → has_valid_fields a ≡ true → HasFittingFields a → IsFine 3 (body_data true a)
unfolding has_valid_fields
fine_body (action.Info w) valid fits = fine_object 2 (action_fields true (action.Info w)) refl (fine_integer w.time fits ▸ made string w.txn_id fine_string ▸ tt)
fine_body (action.Protocol w) valid fits =
    fine_object 2 (action_fields true (action.Protocol w)) refl
    (fine_integer w.reader fits.0 ▸ fine_integer w.writer fits.1 ▸ made names_data w.reader_features fine_names ▸ made names_data w.writer_features fine_names ▸ tt)
fine_body (action.Meta w) valid fits =
    let both = and_parts (are_texts w.configuration) (are_texts w.format.options) valid in
    fine_object 2 (action_fields true (action.Meta w)) refl (fine_pairs w.configuration (in_order w.configuration both.0) ▸ made_integer w.created fits ▸ made string w.description fine_string ▸ fine_format w.format (in_order w.format.options both.1) ▸ fine_string w.id ▸ made string w.name fine_string ▸ fine_names w.columns ▸ fine_string w.schema ▸ tt)
fine_body (action.Txn w) valid fits = fine_object 2 (action_fields true (action.Txn w)) refl (fine_string w.app ▸ made_integer w.updated fits.0 ▸ fine_integer w.number fits.1 ▸ tt)
fine_body (action.Domain w) valid fits = fine_object 2 (action_fields true (action.Domain w)) refl (fine_string w.configuration ▸ fine_string w.domain ▸ fine_flag w.removed ▸ tt)
fine_body (action.Remove w) valid fits =
    let parts = and_parts (option_map_or are_in_order w.values true && is_not_empty w.path && option_map_or is_from_zero w.size true) (option_map_or is_valid_vector w.vector true) valid in
    let front = and_parts (option_map_or are_in_order w.values true && is_not_empty w.path) (option_map_or is_from_zero w.size true) parts.0 in
    let values = (and_parts (option_map_or are_in_order w.values true) (is_not_empty w.path) front.0).0 in
    fine_object 2 (action_fields true (action.Remove w)) refl
    (fine_flag w.change ▸ made_integer w.deleted fits.0 ▸ made_vector w.vector fits.2 ▸ made boolean w.extended fine_flag ▸ made_pairs w.values values ▸ fine_string w.path ▸ made_integer w.size fits.1 ▸ tt)
fine_body (action.Add w) valid fits =
    let parts = and_parts (are_in_order w.values && is_not_empty w.path && is_from_zero w.size && option_map_or are_in_order w.tags true) (option_map_or is_valid_vector w.vector true) valid in
    let front = and_parts (are_in_order w.values && is_not_empty w.path && is_from_zero w.size) (option_map_or are_in_order w.tags true) parts.0 in
    let middle = and_parts (are_in_order w.values && is_not_empty w.path) (is_from_zero w.size) front.0 in
    let values = (and_parts (are_in_order w.values) (is_not_empty w.path) middle.0).0 in
    fine_object 2 (action_fields true (action.Add w)) refl
    (fine_flag w.change ▸ made_vector w.vector fits.2 ▸ fine_integer w.modified fits.0 ▸ fine_pairs w.values values ▸ fine_string w.path ▸ fine_integer w.size fits.1 ▸ made string w.stats fine_string ▸ made_pairs w.tags front.1 ▸ tt)

fine_line : (a : Action) → has_valid_fields a ≡ true → HasFittingFields a → IsFine 4 (action_data a)
fine_line a valid fits =
    let body = fine_body a valid fits in
    record { sound = (refl, (body.sound, tt)); shallow = omega (arith, body.shallow) }

pub read-canonical_line : (a : Action) → has_valid_fields a ≡ true → HasFittingFields a → read (canonical_line a) ≡ Some (action_data a)
unfolding canonical_line
read-canonical_line a valid fits = let fine = fine_line a valid fits in read-compact_text (action_data a) fine.sound (omega (arith, fine.shallow))

pub one_line-canonical_line : (a : Action) → has_valid_fields a ≡ true → HasFittingFields a → IsOneLine (canonical_line a)
unfolding canonical_line
one_line-canonical_line a valid fits = one_line-compact_text (action_data a) (fine_line a valid fits).sound
