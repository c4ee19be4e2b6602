-- A single word.
use Rattle.std.proofs.Common.{◌≡◌, ◌≤◌, ◌<◌, ℕ, List, [], ◌∷◌, length, map, String, string_bytes, get_or, ap, ◌∙◌, arith}
use Rattle.std.specs.declared.alloc.Global.{Global}

pub one_word : (ws : List (String Global)) (w : String Global) (text : List ℕ) → 1 ≤ length ws → length ws < 2 → w ≡ get_or ws 0 w
    → string_bytes w ≡ text → map string_bytes ws ≡ text ∷ []
one_word [] w text low high is same = absurd (omega arith)
one_word (x ∷ []) w text low high is same = ap (λ y. string_bytes y ∷ []) (let e : x ≡ w = cc in e) ∙ ap (λ y. y ∷ []) same
one_word (x ∷ y ∷ xs) w text low high is same = absurd (omega arith)
