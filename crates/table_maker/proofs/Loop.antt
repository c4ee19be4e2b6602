-- What the loop over the requests keeps.
use Rattle.std.proofs.Common.{◌≡◌, ℕ, zero, suc, ◌+◌, ◌^◌, ◌<◌, ◌≤◌, List, [], ◌∷◌, ◌++◌, refl, sym, ◌∙◌, ap, subst, length, arith, add-one, append-nil, append_assoc, length-append}
use Rattle.std.specs.List.{flat_map}
use Rattle.std.proofs.lemmas.Grind.{flat_map-append}
use Rattle.std.proofs.lemmas.List.Sums.{count_by-le-length}
use Rattle.table_maker.specs.Draws.{state_after, next_state, drawn}
use Rattle.table_maker.specs.Knows.{Knows}
use Rattle.table_maker.specs.Requests.{requests, next_request, is_new}
use Rattle.table_maker.specs.Script.{text_of, request_line, script_of}
use Rattle.table_maker.specs.declared.part.Part.TheVariants as part
use Rattle.table_maker.specs.declared.request.Request.{Request}
use Rattle.table_maker.specs.declared.maker.Maker.{Maker}

-- after k requests of a script
pub record IsMade (number k : ℕ) (text : List ℕ) (maker : Maker) (state : ℕ) : Type 0 where
  pub text_is : text ≡ text_of part.CreateLine ++ flat_map request_line (requests number k)
  pub knows : Knows maker (requests number k)
  pub state_is : state ≡ state_after number k
  pub small : state < 2 ^ 31
  pub few : maker.writes ≤ k

pub length-requests : (number k : ℕ) → length (requests number k) ≡ k
unfolding requests
length-requests number zero = refl
length-requests number (suc k) =
    omega (arith, length-requests number k, length-append {A = Request} (requests number k) (next_request (requests number k) (k + 1) (drawn (next_state (state_after number k))) ∷ []))

few_writes : (number k : ℕ) (maker : Maker) → Knows maker (requests number k) → maker.writes ≤ k
few_writes number k maker knows =
    omega (arith, knows.writes, count_by-le-length is_new (requests number k), length-requests number k)

pub made_none : (number : ℕ) (maker : Maker) (text : List ℕ) → text ≡ text_of part.CreateLine → Knows maker [] → number < 2 ^ 31
    → IsMade number 0 text maker number
unfolding requests
made_none number maker text e knows small =
    record { text_is = e ∙ sym (append-nil (text_of part.CreateLine)); knows = knows; state_is = refl; small = small; few = few_writes number 0 maker knows }

-- the requests of a script, one more
requests_more : (number k state : ℕ) (request : Request) → state ≡ next_state (state_after number k)
    → request ≡ next_request (requests number k) (k + 1) (drawn state) → requests number (suc k) ≡ requests number k ++ request ∷ []
unfolding requests
requests_more number k state request e chosen =
    ap (λ (r : Request). requests number k ++ r ∷ []) (ap (λ (s : ℕ). next_request (requests number k) (k + 1) (drawn s)) (sym e) ∙ sym chosen)

-- and the text of them
text_more : (create : List ℕ) (rs : List Request) (r : Request) → (create ++ flat_map request_line rs) ++ request_line r ≡ create ++ flat_map request_line (rs ++ r ∷ [])
text_more create rs r =
    append_assoc create (flat_map request_line rs) (request_line r)
    ∙ ap (λ (t : List ℕ). create ++ (flat_map request_line rs ++ t)) (sym (append-nil (request_line r)))
    ∙ ap (λ (t : List ℕ). create ++ t) (sym (flat_map-append request_line rs (r ∷ [])))

pub made_more : (number k : ℕ) (text text' : List ℕ) (maker maker' : Maker) (state state' : ℕ) (request : Request)
    → IsMade number k text maker state → state' ≡ next_state state → state' < 2 ^ 31
    → ((before : List Request) → Knows maker before → request ≡ next_request before (k + 1) (drawn state'))
    → text' ≡ text ++ request_line request
    → ((before : List Request) → Knows maker before → Knows maker' (before ++ request ∷ []))
    → IsMade number (k + 1) text' maker' state'
made_more number k text text' maker maker' state state' request made next small chosen added taken =
    let state_is : state' ≡ next_state (state_after number k) = next ∙ ap next_state made.state_is in
    let more : requests number (suc k) ≡ requests number k ++ request ∷ [] =
    requests_more number k state' request state_is (chosen (requests number k) made.knows) in
    let knows : Knows maker' (requests number (suc k)) = subst (λ (rs : List Request). Knows maker' rs) (sym more) (taken (requests number k) made.knows) in
    let made' : IsMade number (suc k) text' maker' state' =
    record {
      text_is =
          added ∙ ap (λ (t : List ℕ). t ++ request_line request) made.text_is ∙ text_more (text_of part.CreateLine) (requests number k) request
          ∙ ap (λ (rs : List Request). text_of part.CreateLine ++ flat_map request_line rs) (sym more);
      knows = knows;
      state_is = state_is;
      small = small;
      few = few_writes number (suc k) maker' knows;
    } in
    subst (λ (n : ℕ). IsMade number n text' maker' state') (sym (add-one k)) made'

pub made_all : (number k : ℕ) (text text' : List ℕ) (maker : Maker) (state : ℕ) → IsMade number k text maker state
    → text' ≡ text ++ text_of part.LoadLine → text' ≡ script_of number k
unfolding script_of
made_all number k text text' maker state made e = e ∙ ap (λ (t : List ℕ). t ++ text_of part.LoadLine) made.text_is
