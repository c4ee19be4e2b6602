-- A value, level by level; a map beside the members that it stands for.
--     view-Array, view-Object      what an array and an object are seen as
--     members_view-insert_entry    an insert into the map puts the member
--     view-lookup                  a look-up in the map finds the member
use Rattle.std.proofs.Common.{◌≡◌, ℕ, List, [], ◌∷◌, map, Option, Some, None, option_map, Vec, BTreeMap, Global, Ordering, Less, Equal, Greater, nat_cmp, is_eq, cond, Bor, refl, ap, ◌∙◌, rules}
use Rattle.std.specs.Cmp.Lexicographic.{slice_cmp}
use Rattle.std.specs.Map.{lookup}
use Rattle.std.specs.Ordering.{match_ordering}
use Rattle.std.specs.BTreeMap.{insert_entry, is_at}
use Rattle.serde_json.specs.Data.{Data, array, object, Members, put}
use Rattle.serde_json.specs.Find.{get_member}
use Rattle.json_tree.specs.View.{view, items_view, members_view}
use Rattle.json_tree.specs.declared.tree.Tree.{Tree, Array, Object, the_lemmas}

abbrev pub Entry : Type 0
Entry = Bor (List ℕ) × Tree

-- names in byte order
abbrev pub name_order : Bor (List ℕ) → Bor (List ℕ) → Ordering
name_order k l = slice_cmp nat_cmp k.now l.now

pub view-Array : (v : Vec Tree Global) → view (Array v) ≡ array (items_view v.items)
view-Array v = search (rules, the_lemmas)

pub view-Object : (m : BTreeMap (Bor (List ℕ)) Tree) → view (Object m) ≡ object (members_view m.entries)
view-Object m = search (rules, the_lemmas)

by_order : (o : Ordering) (a b c : List Entry) → members_view (match_ordering o a b c) ≡ match_ordering o (members_view a) (members_view b) (members_view c)
by_order Less a b c = refl
by_order Equal a b c = refl
by_order Greater a b c = refl

pub members_view-insert_entry : (es : List Entry) (k : Bor (List ℕ)) (t : Tree) → members_view (insert_entry name_order es k t) ≡ put k.now (view t) (members_view es)
members_view-insert_entry [] k t = refl
members_view-insert_entry (e ∷ es) k t = by_order (name_order k e.0) _ _ _ ∙ rw (members_view-insert_entry es k t)

this_or_later : (o : Ordering) (t : Tree) (later : Option Tree) (d : Option Data) → option_map view later ≡ d → option_map view (cond (is_eq o) (Some t) later) ≡ match_ordering o d (Some (view t)) d
this_or_later Less t later d e = e
this_or_later Equal t later d e = refl
this_or_later Greater t later d e = e

pub view-lookup : (name : List ℕ) (es : List Entry) → option_map view (lookup (is_at (λ k. slice_cmp nat_cmp name k.now)) es) ≡ get_member name (members_view es)
view-lookup name [] = refl
view-lookup name (e ∷ es) = this_or_later (slice_cmp nat_cmp name e.0.now) e.1 _ _ (view-lookup name es)

pub view_of_ref : (r : Option (Bor Tree)) → option_map (λ t. view t.now) r ≡ option_map view (option_map (λ t. t.now) r)
view_of_ref None = refl
view_of_ref (Some t) = refl
