-- What `==` of actions says: they are equal.
use Rattle.std.proofs.Common.{◌≡◌, ℕ, List, Bool, refl, ap, sym, ◌∙◌, ◌&&◌, int_eq}
use Rattle.std.specs.Prelude.{Option, Some, None}
use Rattle.std.specs.Bool.{Decides}
use Rattle.std.specs.Cmp.{booleans_Decides}
use Rattle.std.specs.Option.{option_eq}
use Rattle.std.specs.Ordering.{eq_of_both, on}
use Rattle.std.specs.Str.{bytes_eq}
use lib.Pointwise.{pointwise}
use mathlib.Core.Bool.{beq}
use Rattle.std.proofs.lemmas.Bool.Decides.{Decides-and, Decides-int_eq}
use Rattle.std.proofs.lemmas.Slice.Eq.{bytes_eq-Decides, slice_eq-Decides}
use Rattle.action_types.specs.declared.actions.Add.{Add}
use Rattle.action_types.specs.declared.actions.Remove.{Remove}
use Rattle.action_types.specs.declared.actions.Vector.{Vector}
use Rattle.action_types.specs.declared.actions.Protocol.{Protocol}
use Rattle.action_types.specs.declared.actions.Format.{Format}
use Rattle.action_types.specs.declared.actions.Meta.{Meta}

told_by : {P Q : Type 0} (r : Bool) → Decides r P → (P → Q) → (Q → P) → Decides r Q
told_by r d f g = ((λ t. f (d.0 t)), (λ q. d.1 (g q)))

same_given : {T : Type 0} (x y : T) → Some x ≡ Some y → x ≡ y
same_given x y e = cc

-- an option's `==`, where that of its value decides
pub option_Decides : {T : Type 0} {E : T → T → Bool} → ((x y : T) → Decides (E x y) (x ≡ y)) → (a b : Option T) → Decides (option_eq E a b) (a ≡ b)
option_Decides h None None = ((λ t. refl), (λ e. refl))
option_Decides h None (Some y) = ((λ t. cc), (λ e. cc))
option_Decides h (Some x) None = ((λ t. cc), (λ e. cc))
option_Decides h (Some x) (Some y) = ((λ t. ap (λ z. Some z) ((h x y).0 t)), (λ e. (h x y).1 (same_given x y e)))

abbrev Pair : Type 0
Pair = List ℕ × Option (List ℕ)

abbrev pair_eq : Pair → Pair → Bool
pair_eq = eq_of_both (on (λ p. p.0) bytes_eq) (on (λ p. p.1) (option_eq bytes_eq))

texts_Decides : (a b : Option (List ℕ)) → Decides (option_eq bytes_eq a b) (a ≡ b)
texts_Decides = option_Decides bytes_eq-Decides

pair_Decides : (p q : Pair) → Decides (pair_eq p q) (p ≡ q)
pair_Decides p q =
    told_by (pair_eq p q) (Decides-and (bytes_eq p.0 q.0) (option_eq bytes_eq p.1 q.1) (bytes_eq-Decides p.0 q.0) (texts_Decides p.1 q.1))
    (λ h i. (h.0 i, h.1 i)) (λ e. (ap (λ x. x.0) e, ap (λ x. x.1) e))

names_Decides : (a b : List (List ℕ)) → Decides (pointwise bytes_eq a b) (a ≡ b)
names_Decides a b = slice_eq-Decides bytes_eq-Decides a b (pointwise bytes_eq a b) refl

pairs_Decides : (a b : List Pair) → Decides (pointwise pair_eq a b) (a ≡ b)
pairs_Decides a b = slice_eq-Decides pair_Decides a b (pointwise pair_eq a b) refl

abbrev protocol_eq : Protocol → Protocol → Bool
protocol_eq a b =
    int_eq a.reader b.reader && (int_eq a.writer b.writer
    && (option_eq (pointwise bytes_eq) a.reader_features b.reader_features && option_eq (pointwise bytes_eq) a.writer_features b.writer_features))

protocol_Decides : (a b : Protocol) → Decides (protocol_eq a b) (a ≡ b)
protocol_Decides a b =
    told_by (protocol_eq a b)
    (Decides-and _ _ (Decides-int_eq a.reader b.reader) (Decides-and _ _ (Decides-int_eq a.writer b.writer)
    (Decides-and _ _ (option_Decides names_Decides a.reader_features b.reader_features) (option_Decides names_Decides a.writer_features b.writer_features))))
    (λ h i. record { reader = h.0 i; writer = h.1.0 i; reader_features = h.1.1.0 i; writer_features = h.1.1.1 i })
    (λ e. (ap (λ x. x.reader) e, (ap (λ x. x.writer) e, (ap (λ x. x.reader_features) e, ap (λ x. x.writer_features) e))))

pub protocols_Decides : (a b : Option Protocol) → Decides (option_eq protocol_eq a b) (a ≡ b)
protocols_Decides = option_Decides protocol_Decides

abbrev format_eq : Format → Format → Bool
format_eq a b = bytes_eq a.provider b.provider && pointwise pair_eq a.options b.options

format_Decides : (a b : Format) → Decides (format_eq a b) (a ≡ b)
format_Decides a b =
    told_by (format_eq a b) (Decides-and _ _ (bytes_eq-Decides a.provider b.provider) (pairs_Decides a.options b.options))
    (λ h i. record { provider = h.0 i; options = h.1 i }) (λ e. (ap (λ x. x.provider) e, ap (λ x. x.options) e))

abbrev meta_eq : Meta → Meta → Bool
meta_eq a b =
    pointwise pair_eq a.configuration b.configuration && (option_eq int_eq a.created b.created && (option_eq bytes_eq a.description b.description
    && (format_eq a.format b.format && (bytes_eq a.id b.id && (option_eq bytes_eq a.name b.name && (pointwise bytes_eq a.columns b.columns && bytes_eq a.schema b.schema))))))

meta_Decides : (a b : Meta) → Decides (meta_eq a b) (a ≡ b)
meta_Decides a b =
    told_by (meta_eq a b)
    (Decides-and _ _ (pairs_Decides a.configuration b.configuration) (Decides-and _ _ (option_Decides Decides-int_eq a.created b.created)
    (Decides-and _ _ (texts_Decides a.description b.description) (Decides-and _ _ (format_Decides a.format b.format)
    (Decides-and _ _ (bytes_eq-Decides a.id b.id) (Decides-and _ _ (texts_Decides a.name b.name)
    (Decides-and _ _ (names_Decides a.columns b.columns) (bytes_eq-Decides a.schema b.schema))))))))
    (λ h i. record {
      configuration = h.0 i;
      created = h.1.0 i;
      description = h.1.1.0 i;
      format = h.1.1.1.0 i;
      id = h.1.1.1.1.0 i;
      name = h.1.1.1.1.1.0 i;
      columns = h.1.1.1.1.1.1.0 i;
      schema = h.1.1.1.1.1.1.1 i;
    })
    (λ e. (ap (λ x. x.configuration) e, (ap (λ x. x.created) e, (ap (λ x. x.description) e, (ap (λ x. x.format) e, (ap (λ x. x.id) e, (ap (λ x. x.name) e, (ap (λ x. x.columns) e, ap (λ x. x.schema) e))))))))

pub metas_Decides : (a b : Option Meta) → Decides (option_eq meta_eq a b) (a ≡ b)
metas_Decides = option_Decides meta_Decides

abbrev vector_eq : Vector → Vector → Bool
vector_eq a b =
    bytes_eq a.storage b.storage && (bytes_eq a.locator b.locator && (option_eq int_eq a.offset b.offset && (int_eq a.size b.size && int_eq a.cardinality b.cardinality)))

vector_Decides : (a b : Vector) → Decides (vector_eq a b) (a ≡ b)
vector_Decides a b =
    told_by (vector_eq a b)
    (Decides-and _ _ (bytes_eq-Decides a.storage b.storage) (Decides-and _ _ (bytes_eq-Decides a.locator b.locator)
    (Decides-and _ _ (option_Decides Decides-int_eq a.offset b.offset) (Decides-and _ _ (Decides-int_eq a.size b.size) (Decides-int_eq a.cardinality b.cardinality)))))
    (λ h i. record { storage = h.0 i; locator = h.1.0 i; offset = h.1.1.0 i; size = h.1.1.1.0 i; cardinality = h.1.1.1.1 i })
    (λ e. (ap (λ x. x.storage) e, (ap (λ x. x.locator) e, (ap (λ x. x.offset) e, (ap (λ x. x.size) e, ap (λ x. x.cardinality) e)))))

abbrev add_eq : Add → Add → Bool
add_eq a b =
    beq a.change b.change && (int_eq a.modified b.modified && (pointwise pair_eq a.values b.values && (bytes_eq a.path b.path && (int_eq a.size b.size
    && (option_eq bytes_eq a.stats b.stats && (option_eq (pointwise pair_eq) a.tags b.tags && option_eq vector_eq a.vector b.vector))))))

pub add_Decides : (a b : Add) → Decides (add_eq a b) (a ≡ b)
add_Decides a b =
    told_by (add_eq a b)
    (Decides-and _ _ (booleans_Decides a.change b.change) (Decides-and _ _ (Decides-int_eq a.modified b.modified)
    (Decides-and _ _ (pairs_Decides a.values b.values) (Decides-and _ _ (bytes_eq-Decides a.path b.path)
    (Decides-and _ _ (Decides-int_eq a.size b.size) (Decides-and _ _ (texts_Decides a.stats b.stats)
    (Decides-and _ _ (option_Decides pairs_Decides a.tags b.tags) (option_Decides vector_Decides a.vector b.vector))))))))
    (λ h i. record {
      change = h.0 i;
      modified = h.1.0 i;
      values = h.1.1.0 i;
      path = h.1.1.1.0 i;
      size = h.1.1.1.1.0 i;
      stats = h.1.1.1.1.1.0 i;
      tags = h.1.1.1.1.1.1.0 i;
      vector = h.1.1.1.1.1.1.1 i;
    })
    (λ e. (ap (λ x. x.change) e, (ap (λ x. x.modified) e, (ap (λ x. x.values) e, (ap (λ x. x.path) e, (ap (λ x. x.size) e, (ap (λ x. x.stats) e, (ap (λ x. x.tags) e, ap (λ x. x.vector) e))))))))

abbrev remove_eq : Remove → Remove → Bool
remove_eq a b =
    beq a.change b.change && (option_eq int_eq a.deleted b.deleted && (option_eq beq a.extended b.extended && (option_eq (pointwise pair_eq) a.values b.values
    && (bytes_eq a.path b.path && (option_eq int_eq a.size b.size && option_eq vector_eq a.vector b.vector)))))

pub remove_Decides : (a b : Remove) → Decides (remove_eq a b) (a ≡ b)
remove_Decides a b =
    told_by (remove_eq a b)
    (Decides-and _ _ (booleans_Decides a.change b.change) (Decides-and _ _ (option_Decides Decides-int_eq a.deleted b.deleted)
    (Decides-and _ _ (option_Decides booleans_Decides a.extended b.extended) (Decides-and _ _ (option_Decides pairs_Decides a.values b.values)
    (Decides-and _ _ (bytes_eq-Decides a.path b.path) (Decides-and _ _ (option_Decides Decides-int_eq a.size b.size) (option_Decides vector_Decides a.vector b.vector)))))))
    (λ h i. record {
      change = h.0 i;
      deleted = h.1.0 i;
      extended = h.1.1.0 i;
      values = h.1.1.1.0 i;
      path = h.1.1.1.1.0 i;
      size = h.1.1.1.1.1.0 i;
      vector = h.1.1.1.1.1.1 i;
    })
    (λ e. (ap (λ x. x.change) e, (ap (λ x. x.deleted) e, (ap (λ x. x.extended) e, (ap (λ x. x.values) e, (ap (λ x. x.path) e, (ap (λ x. x.size) e, ap (λ x. x.vector) e)))))))

-- a test that is this `==` says the same
pub tests : {P : Type 0} (r s : Bool) → r ≡ s → Decides s P → Decides r P
tests r s e d = ((λ t. d.0 (sym e ∙ t)), (λ p. e ∙ d.1 p))
