-- The compact text of a sound value is read as that value.
use Rattle.std.proofs.Common.{◌≡◌, ℕ, ℤ, pos, negsuc, suc, ◌≤◌, max, List, [], true, Some, option_map, option_and_then, Greater, nat_cmp, refl, sym, ap, ap₂, ◌∙◌, arith, append-nil}
use Rattle.std.specs.Prelude.{⊤}
use Rattle.std.proofs.lemmas.Bool.{and_parts}
use Rattle.std.specs.Cmp.Lexicographic.{slice_cmp}
use Rattle.std.specs.List.{list_all}
use Rattle.json.specs.Lex.{tokens}
use Rattle.json.specs.Json as json
use Rattle.json.specs.Print.{print, IsNumber}
use Rattle.json.specs.Tree as tree
use Rattle.json.specs.Tree.{json_tokens, HasNumbers, ItemsHaveNumbers, MembersHaveNumbers}
use Rattle.json.proofs.Printed.Tokens.{tokens-print}
use Rattle.json.proofs.Printed.Trees.{value-json_tokens, ArePrintable-json_tokens}
use Rattle.json.proofs.Printed.Decimals.{IsNumber-decimal, IsNumber-signed_decimal}
use Rattle.serde_json.specs.Data.{Data, null, boolean, number, string, array, object, Items, no_items, item, Members, no_members, member, put, depth, items_depth, members_depth}
use Rattle.serde_json.specs.Read.{number_of, of_json, of_items, of_members, max_depth, read}
use Rattle.serde_json.specs.Written.{number_text, outline, items_outline, members_outline, compact_text}
use Rattle.serde_json.proofs.Numbers.{number_of-decimal, number_of-negative}
use Rattle.serde_json.proofs.Texts.{print-outline}
use Rattle.action_fields.specs.Canonical.{integer_data}
use Rattle.action_fields.specs.Fits.{Fits}
use Rattle.action_fields.specs.Ordered.{names_of, is_below, are_rising}
use Rattle.std.proofs.lemmas.List.Elements.{All-cons}
use Rattle.std.specs.Prelude.{decimal, ◌≢◌}
use Rattle.action_fields.proofs.OneLine.{IsOneLine, one_line-decimal}
use Rattle.action_fields.proofs.Rising.{greater}

-- its numbers are read as they are written, and its names are in order
abbrev mutual
  pub IsSound : Data → Type 0
  IsSound null = ⊤
  IsSound (boolean b) = ⊤
  IsSound (number n) = IsNumber (number_text n) × (number_of (number_text n) ≡ Some n) × IsOneLine (number_text n)
  IsSound (string s) = ⊤
  IsSound (array ds) = ItemsAreSound ds
  IsSound (object ms) = (are_rising (names_of ms) ≡ true) × MembersAreSound ms

  pub ItemsAreSound : Items → Type 0
  ItemsAreSound no_items = ⊤
  ItemsAreSound (item d ds) = IsSound d × ItemsAreSound ds

  pub MembersAreSound : Members → Type 0
  MembersAreSound no_members = ⊤
  MembersAreSound (member k d ms) = IsSound d × MembersAreSound ms

pub IsSound-integer : (z : ℤ) → Fits z → IsSound (integer_data z)
IsSound-integer (pos n) h = (IsNumber-decimal n (omega arith), number_of-decimal n (omega arith), one_line-decimal n (omega arith))
IsSound-integer (negsuc n) h =
    (IsNumber-signed_decimal (negsuc n) (omega arith), number_of-negative n (omega arith), All-cons (λ b. b ≢ 10) 45 (decimal (suc n)) (λ e. absurd (omega arith)) (one_line-decimal (suc n) (omega arith)))

-- ---- members that go in one after another

abbrev appended : Members → Members → Members
appended no_members ms = ms
appended (member k d found) ms = member k d (appended found ms)

-- each name found is below all that follow
abbrev Before : Members → Members → Type 0
Before no_members ms = ⊤
Before (member l e found) ms = (list_all (is_below l) (names_of ms) ≡ true) × Before found ms

put-last : (found : Members) (k : List ℕ) (d : Data) (ms : Members) → Before found (member k d ms) → put k d found ≡ appended found (member k d no_members)
put-last no_members k d ms h = refl
put-last (member l e found) k d ms h =
    let above : slice_cmp nat_cmp k l ≡ Greater = greater k l (and_parts (is_below l k) (list_all (is_below l) (names_of ms)) h.0).0 in
    rw above (ap (member l e) (put-last found k d ms h.1))

one_more : (found : Members) (k : List ℕ) (d : Data) (ms : Members) → Before found (member k d ms) → list_all (is_below k) (names_of ms) ≡ true → Before (appended found (member k d no_members)) ms
one_more no_members k d ms h below = (below, tt)
one_more (member l e found) k d ms h below = ((and_parts (is_below l k) (list_all (is_below l) (names_of ms)) h.0).1, one_more found k d ms h.1 below)

appended-append : (found : Members) (k : List ℕ) (d : Data) (ms : Members) → appended (appended found (member k d no_members)) ms ≡ appended found (member k d ms)
appended-append no_members k d ms = refl
appended-append (member l e found) k d ms = ap (member l e) (appended-append found k d ms)

appended-nil : (found : Members) → appended found no_members ≡ found
appended-nil no_members = refl
appended-nil (member l e found) = ap (member l e) (appended-nil found)

mutual
  of_json-outline : (d : Data) → IsSound d → of_json (outline d) ≡ Some d
  of_json-outline null h = refl
  of_json-outline (boolean b) h = refl
  of_json-outline (number n) h = ap (option_map number) h.1
  of_json-outline (string s) h = refl
  of_json-outline (array ds) h = ap (option_map array) (of_items-outline ds h)
  of_json-outline (object ms) h = ap (option_map object) (of_members-outline ms no_members tt h.0 h.1)

  of_items-outline : (ds : Items) → ItemsAreSound ds → of_items (items_outline ds) ≡ Some ds
  of_items-outline no_items h = refl
  of_items-outline (item d ds) h =
      ap (option_and_then (λ e. option_map (item e) (of_items (items_outline ds)))) (of_json-outline d h.0) ∙ ap (option_map (item d)) (of_items-outline ds h.1)

  of_members-outline : (ms found : Members) → Before found ms → are_rising (names_of ms) ≡ true → MembersAreSound ms → of_members (members_outline ms) found ≡ Some (appended found ms)
  of_members-outline no_members found before rising h = ap Some (sym (appended-nil found))
  of_members-outline (member k d ms) found before rising h =
      let p = and_parts (list_all (is_below k) (names_of ms)) (are_rising (names_of ms)) rising in
      ap (option_and_then (λ e. of_members (members_outline ms) (put k e found))) (of_json-outline d h.0)
      ∙ ap (of_members (members_outline ms)) (put-last found k d ms before)
      ∙ of_members-outline ms (appended found (member k d no_members)) (one_more found k d ms before p.0) p.1 h.1
      ∙ ap Some (appended-append found k d ms)

mutual
  HasNumbers-outline : (d : Data) → IsSound d → HasNumbers (outline d)
  HasNumbers-outline null h = tt
  HasNumbers-outline (boolean b) h = tt
  HasNumbers-outline (number n) h = h.0
  HasNumbers-outline (string s) h = tt
  HasNumbers-outline (array ds) h = ItemsHaveNumbers-outline ds h
  HasNumbers-outline (object ms) h = MembersHaveNumbers-outline ms h.1

  ItemsHaveNumbers-outline : (ds : Items) → ItemsAreSound ds → ItemsHaveNumbers (items_outline ds)
  ItemsHaveNumbers-outline no_items h = tt
  ItemsHaveNumbers-outline (item d ds) h = (HasNumbers-outline d h.0, ItemsHaveNumbers-outline ds h.1)

  MembersHaveNumbers-outline : (ms : Members) → MembersAreSound ms → MembersHaveNumbers (members_outline ms)
  MembersHaveNumbers-outline no_members h = tt
  MembersHaveNumbers-outline (member k d ms) h = (HasNumbers-outline d h.0, MembersHaveNumbers-outline ms h.1)

mutual
  depth-outline : (d : Data) → tree.depth (outline d) ≡ depth d
  depth-outline null = refl
  depth-outline (boolean b) = refl
  depth-outline (number n) = refl
  depth-outline (string s) = refl
  depth-outline (array ds) = ap (λ n. suc n) (items_depth-outline ds)
  depth-outline (object ms) = ap (λ n. suc n) (members_depth-outline ms)

  items_depth-outline : (ds : Items) → tree.items_depth (items_outline ds) ≡ items_depth ds
  items_depth-outline no_items = refl
  items_depth-outline (item d ds) = ap₂ (λ m n. max m n) (depth-outline d) (items_depth-outline ds)

  members_depth-outline : (ms : Members) → tree.members_depth (members_outline ms) ≡ members_depth ms
  members_depth-outline no_members = refl
  members_depth-outline (member k d ms) = ap₂ (λ m n. max m n) (depth-outline d) (members_depth-outline ms)

-- a sound value that does not nest too deep
pub read-compact_text : (d : Data) → IsSound d → depth d ≤ max_depth → read (compact_text d) ≡ Some d
read-compact_text d h shallow =
    let j = outline d in
    let back : tokens (print (json_tokens j)) ≡ json_tokens j = tokens-print (json_tokens j) (ArePrintable-json_tokens j (HasNumbers-outline d h)) in
    let within : tree.depth j ≤ max_depth = omega (arith, depth-outline d) in
    ap read (sym (print-outline d))
    ∙ ap (λ o. option_and_then of_json (option_and_then (λ p. json.if_last p.0 p.1) o)) (ap (json.value max_depth) (back ∙ sym (append-nil (json_tokens j))) ∙ value-json_tokens j max_depth [] within)
    ∙ of_json-outline d h
