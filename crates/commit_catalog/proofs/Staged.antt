-- The staged versions, one at a time.
use Rattle.std.proofs.Common.{◌≡◌, ℕ, suc, ◌+◌, ◌-◌, List, [], ◌∷◌, ◌++◌, length, drop, arith, ap, ◌∙◌, refl, length-drop}
use Rattle.commit_catalog.specs.declared.Entry.{Entry}
use Rattle.commit_catalog.specs.Records.{ratified, ratified_from, staged_of}

pub length-ratified_from : (version : ℕ) (records : List Entry) → length (ratified_from version records) ≡ length records
length-ratified_from version [] = refl
length-ratified_from version (e ∷ es) = ap suc (length-ratified_from (version + 1) es)

pub length-staged_of : (records : List Entry) (reported : ℕ) → length (staged_of records reported) ≡ length records - reported
length-staged_of records reported = length-ratified_from reported (drop reported records) ∙ length-drop reported records

-- one commit more at the end
pub ratified_from-push : (version : ℕ) (records : List Entry) (e : Entry)
    → ratified_from version (records ++ e ∷ []) ≡ ratified_from version records ++ ratified (version + length records) e ∷ []
ratified_from-push version [] e = ap (λ (n : ℕ). ratified n e ∷ []) (omega arith)
ratified_from-push version (r ∷ rs) e =
    ap (λ rest. ratified version r ∷ rest)
    (ratified_from-push (version + 1) rs e
    ∙ ap (λ (n : ℕ). ratified_from (version + 1) rs ++ ratified n e ∷ []) (omega arith))
