-- Bytes are cut into requests in one way.
use Rattle.std.proofs.Common.{◌≡◌, ℕ, ◌+◌, ◌-◌, ◌<◌, ◌≤◌, ⊎_elim, inl, inr, List, [], ◌∷◌, ◌++◌, length, take, drop, Result, Ok, Err, refl, sym, ◌∙◌, ap, subst, arith, append_assoc, append-nil, length-append}
use Rattle.std.specs.List.{All, flat_map}
use Rattle.std.proofs.Math.Seq.{take-append_seam, drop-append_seam, take-append-add}
use Rattle.std.proofs.lemmas.List.{take-append-drop, take-append-le, append_cancel_left}
use Rattle.std.proofs.lemmas.List.Elements.{All-head, All-tail, All-cons, All-nil, All-push}
use Rattle.std.proofs.lemmas.Grind.{flat_map-append}
use Rattle.std.proofs.lemmas.Bool.{cases_lt}
use Rattle.httparse.specs.Grammar.{RequestHead, IsRequestHead, print_request, ReadsRequest}
use Rattle.httparse.proofs.GrammarLemmas.{request_unique}
use Rattle.http_wire.specs.Head.{size_of}
use Rattle.http_wire.specs.Requests.{head_limit, HasHead, IsRequest, IsUnfinished, IsRefused}
use Rattle.http_wire.specs.Stream.{Sent, sent_bytes, IsServed, InputEnd, between, inside, refused, EndsBy, Splits, Heard}

same_ok : (a b : ℕ) → ◌≡◌ {A = Result ℕ ℕ} (Ok a) (Ok b) → a ≡ b
same_ok a b e = cc

ok_err : (a b : ℕ) → ◌≡◌ {A = Result ℕ ℕ} (Ok a) (Err b) → ⊥
ok_err a b e = cc

-- a head at the front of a request's bytes is the request's
same_head : (limit : ℕ) (bytes : List ℕ) (h k : RequestHead) (body rest q : List ℕ) → IsRequest limit bytes h body rest → HasHead bytes k q
    → (h ≡ k) × (body ++ rest ≡ q)
same_head limit bytes h k body rest q request head = request_unique bytes h k (body ++ rest) q request.head.reads head.reads

-- what is less than a request has none at the front
pub unfinished_has_none : (limit : ℕ) (bytes : List ℕ) (h : RequestHead) (body rest : List ℕ) → IsUnfinished limit bytes → IsRequest limit bytes h body rest → ⊥
unfinished_has_none limit bytes h body rest (inl part) request = part.no_head h (body ++ rest) request.head.reads
unfinished_has_none limit bytes h body rest (inr lacks) request =
    let same = same_head limit bytes h lacks.h body rest lacks.rest request lacks.head in
    let size : length body ≡ lacks.size = same_ok (length body) lacks.size (sym request.size ∙ ap (size_of limit) same.0 ∙ lacks.size_is) in
    let long : length (body ++ rest) ≡ length lacks.rest = ap length same.1 in
    omega (arith, lacks.lacking, length-append body rest)

-- a head within the limit stands in the front of the bytes
in_front : (bytes : List ℕ) (h : RequestHead) (rest : List ℕ) → HasHead bytes h rest
    → ReadsRequest (take head_limit bytes) h (take (head_limit - length (print_request h)) rest)
in_front bytes h rest head =
    let room : ℕ = head_limit - length (print_request h) in
    let sum : head_limit ≡ length (print_request h) + room = omega (arith, head.within) in
    (head.reads.0, ap (take head_limit) head.reads.1 ∙ ap (λ (n : ℕ). take n (print_request h ++ rest)) sum ∙ take-append-add (print_request h) rest room)

-- nor has what is refused
pub refused_has_none : (limit : ℕ) (bytes : List ℕ) (status : ℕ) (h : RequestHead) (body rest : List ℕ) → IsRefused limit bytes status
    → IsRequest limit bytes h body rest → ⊥
refused_has_none limit bytes status h body rest (inl whole) request =
    let same = same_head limit bytes h whole.h body rest whole.rest request whole.head in
    ok_err (length body) status (sym request.size ∙ ap (size_of limit) same.0 ∙ whole.refusal)
refused_has_none limit bytes status h body rest (inr (inl none)) request =
    none.never (drop head_limit bytes) h (body ++ rest)
    (subst (λ (t : List ℕ). ReadsRequest t h (body ++ rest)) (sym (take-append-drop head_limit bytes)) request.head.reads)
refused_has_none limit bytes status h body rest (inr (inr long)) request =
    long.no_head h (take (head_limit - length (print_request h)) (body ++ rest)) (in_front bytes h (body ++ rest) request.head)

head_some : (h : RequestHead) → IsRequestHead h → 0 < length (print_request h)
unfolding print_request
head_some h is = simp length-append (omega (arith, is.method.0))

end_has_none : (limit : ℕ) (bytes : List ℕ) (end : InputEnd) (h : RequestHead) (body rest : List ℕ) → EndsBy limit bytes end → IsRequest limit bytes h body rest → ⊥
end_has_none limit bytes between h body rest none request =
    let a : length bytes ≡ 0 = ap length none in
    let b : length bytes ≡ length (print_request h ++ (body ++ rest)) = ap length request.head.reads.1 in
    omega (arith, head_some h request.head.reads.0, length-append (print_request h) (body ++ rest))
end_has_none limit bytes inside h body rest (some, unfinished) request = unfinished_has_none limit bytes h body rest unfinished request
end_has_none limit bytes (refused status) h body rest refusal request = refused_has_none limit bytes status h body rest refusal request

-- lists of one length in front of equal lists
same_front : (a b x y : List ℕ) → length a ≡ length b → a ++ x ≡ b ++ y → (a ≡ b) × (x ≡ y)
same_front a b x y size e = (
  sym (take-append_seam a x) ∙ ap (take (length a)) e ∙ ap (λ (n : ℕ). take n (b ++ y)) size ∙ take-append_seam b y,
  sym (drop-append_seam a x) ∙ ap (drop (length a)) e ∙ ap (λ (n : ℕ). drop n (b ++ y)) size ∙ drop-append_seam b y,
)

-- the first of some requests, and then others and the rest
first_of_sent : (limit : ℕ) (r : Sent) (rs : List Sent) (rest : List ℕ) → IsServed limit r
    → IsRequest limit (flat_map sent_bytes (r ∷ rs) ++ rest) r.head r.body (flat_map sent_bytes rs ++ rest)
first_of_sent limit r rs rest served =
    record {
      head = record {
        reads = (
          served.head,
          append_assoc (sent_bytes r) (flat_map sent_bytes rs) rest
              ∙ append_assoc (print_request r.head) r.body (flat_map sent_bytes rs ++ rest),
        );
        within = served.within;
      };
      size = served.size;
    }

cut : (limit : ℕ) (rs qs : List Sent) (x y : List ℕ) (e f : InputEnd) → All (IsServed limit) rs → All (IsServed limit) qs
    → flat_map sent_bytes rs ++ x ≡ flat_map sent_bytes qs ++ y → EndsBy limit x e → EndsBy limit y f → (rs ≡ qs) × (x ≡ y)
cut limit [] [] x y e f all all' same ends ends' = (refl, same)
cut limit [] (q ∷ qs) x y e f all all' same ends ends' =
    absurd (end_has_none limit x e q.head q.body (flat_map sent_bytes qs ++ y) ends
    (subst (λ (t : List ℕ). IsRequest limit t q.head q.body (flat_map sent_bytes qs ++ y)) (sym same) (first_of_sent limit q qs y (All-head (IsServed limit) q qs all'))))
cut limit (r ∷ rs) [] x y e f all all' same ends ends' =
    absurd (end_has_none limit y f r.head r.body (flat_map sent_bytes rs ++ x) ends'
    (subst (λ (t : List ℕ). IsRequest limit t r.head r.body (flat_map sent_bytes rs ++ x)) same (first_of_sent limit r rs x (All-head (IsServed limit) r rs all))))
cut limit (r ∷ rs) (q ∷ qs) x y e f all all' same ends ends' =
    let first = first_of_sent limit r rs x (All-head (IsServed limit) r rs all) in
    let other : IsRequest limit (flat_map sent_bytes (r ∷ rs) ++ x) q.head q.body (flat_map sent_bytes qs ++ y) =
    subst (λ (t : List ℕ). IsRequest limit t q.head q.body (flat_map sent_bytes qs ++ y)) (sym same) (first_of_sent limit q qs y (All-head (IsServed limit) q qs all')) in
    let heads = same_head limit (flat_map sent_bytes (r ∷ rs) ++ x) r.head q.head r.body (flat_map sent_bytes rs ++ x) (q.body ++ (flat_map sent_bytes qs ++ y)) first other.head in
    let size : length r.body ≡ length q.body = same_ok (length r.body) (length q.body) (sym first.size ∙ ap (size_of limit) heads.0 ∙ other.size) in
    let bodies = same_front r.body q.body (flat_map sent_bytes rs ++ x) (flat_map sent_bytes qs ++ y) size heads.1 in
    let rest = cut limit rs qs x y e f (All-tail (IsServed limit) r rs all) (All-tail (IsServed limit) q qs all') bodies.1 ends ends' in
    let mk : RequestHead → List ℕ → Sent = λ (h : RequestHead) (b : List ℕ). record { head = h; body = b } in
    let one : r ≡ q = ap (λ (h : RequestHead). mk h r.body) heads.0 ∙ ap (λ (b : List ℕ). mk q.head b) bodies.0 in
    (ap (λ (s : Sent). s ∷ rs) one ∙ ap (λ (ss : List Sent). q ∷ ss) rest.0, rest.1)

pub Splits-unique : (limit : ℕ) (bytes : List ℕ) (rs qs : List Sent) (e f : InputEnd) → Splits limit bytes rs e → Splits limit bytes qs f → rs ≡ qs
Splits-unique limit bytes rs qs e f a b = (cut limit rs qs a.rest b.rest e f a.served b.served (sym a.whole ∙ b.whole) a.ends b.ends).0

-- the request that is handed is the first of those that were sent
pub Splits-first : (limit : ℕ) (bytes rest : List ℕ) (h : RequestHead) (body : List ℕ) (rs : List Sent) (end : InputEnd) → IsRequest limit bytes h body rest
    → Splits limit rest rs end → Splits limit bytes (record { head = h; body = body } ∷ rs) end
Splits-first limit bytes rest h body rs end request splits =
    let r : Sent = record { head = h; body = body } in
    record {
      rest = splits.rest;
      whole =
          request.head.reads.1 ∙ ap (λ (t : List ℕ). print_request h ++ (body ++ t)) splits.whole
          ∙ sym (append_assoc (print_request h) body (flat_map sent_bytes rs ++ splits.rest))
          ∙ sym (append_assoc (print_request h ++ body) (flat_map sent_bytes rs) splits.rest);
      served = All-cons (IsServed limit) r rs
          (record { head = request.head.reads.0; within = request.head.within; size = request.size }) splits.served;
      ends = splits.ends;
    }

-- ---- what stays pending

-- lists of which the first is no longer
longer_front : (a b x y : List ℕ) → length a ≤ length b → a ++ x ≡ b ++ y → (q : List ℕ) × (b ≡ a ++ q) × (x ≡ q ++ y)
longer_front a b x y le e =
    let q : List ℕ = drop (length a) b in
    let front : take (length a) b ≡ a =
    sym (take-append-le (length a) b y le) ∙ ap (take (length a)) (sym e) ∙ take-append_seam a x in
    let split : b ≡ a ++ q = sym (take-append-drop (length a) b) ∙ ap (λ (t : List ℕ). t ++ q) front in
    (q, split, append_cancel_left a x (q ++ y) (e ∙ ap (λ (t : List ℕ). t ++ y) split ∙ append_assoc a q y))

-- A request in bytes whose front has none takes all of the front.
pub rest_is_short : (limit : ℕ) (p b : List ℕ) (h : RequestHead) (body rest : List ℕ) → IsUnfinished limit p → IsRequest limit (p ++ b) h body rest
    → length rest ≤ length b
rest_is_short limit p b h body rest unfinished request =
    ⊎_elim
    (λ (more : length b < length rest).
    let whole : p ++ b ≡ (print_request h ++ body) ++ rest = request.head.reads.1 ∙ sym (append_assoc (print_request h) body rest) in
    let sizes : length (p ++ b) ≡ length ((print_request h ++ body) ++ rest) = ap length whole in
    let a = longer_front (print_request h ++ body) p rest b (omega (arith, length-append p b, length-append (print_request h ++ body) rest)) (sym whole) in
    absurd (unfinished_has_none limit p h body a.0 unfinished
    (record {
      head = record {
        reads = (request.head.reads.0, a.1 ∙ append_assoc (print_request h) body a.0);
        within = request.head.within;
      };
      size = request.size;
    })))
    (λ (le : length rest ≤ length b). le) (cases_lt (length b) (length rest))

-- ---- what a caller knows

pub Heard-none : (limit : ℕ) → Heard limit [] [] []
Heard-none limit = record { whole = refl; served = All-nil (IsServed limit) }

-- one request more, of what was pending and of more bytes
pub Heard-more : (limit : ℕ) (bytes : List ℕ) (handed : List Sent) (pending more : List ℕ) (h : RequestHead) (body rest : List ℕ) → Heard limit bytes handed pending
    → IsRequest limit (pending ++ more) h body rest → Heard limit (bytes ++ more) (handed ++ record { head = h; body = body } ∷ []) rest
Heard-more limit bytes handed pending more h body rest heard request =
    let r : Sent = record { head = h; body = body } in
    record {
      whole =
          ap (λ (t : List ℕ). t ++ more) heard.whole ∙ append_assoc (flat_map sent_bytes handed) pending more
          ∙ ap (λ (t : List ℕ). flat_map sent_bytes handed ++ t) (request.head.reads.1 ∙ sym (append_assoc (print_request h) body rest))
          ∙ sym (append_assoc (flat_map sent_bytes handed) (sent_bytes r) rest)
          ∙ ap (λ (t : List ℕ). t ++ rest)
          (ap (λ (t : List ℕ). flat_map sent_bytes handed ++ t) (sym (append-nil (sent_bytes r))) ∙ sym (flat_map-append sent_bytes handed (r ∷ [])));
      served = All-push (IsServed limit) handed r heard.served
          (record { head = request.head.reads.0; within = request.head.within; size = request.size });
    }

-- the end, of what was pending and of more bytes
pub Heard-ends : (limit : ℕ) (bytes : List ℕ) (handed : List Sent) (pending more : List ℕ) (end : InputEnd) → Heard limit bytes handed pending
    → EndsBy limit (pending ++ more) end → Splits limit (bytes ++ more) handed end
Heard-ends limit bytes handed pending more end heard ends =
    record {
      rest = pending ++ more;
      whole = ap (λ (t : List ℕ). t ++ more) heard.whole ∙ append_assoc (flat_map sent_bytes handed) pending more;
      served = heard.served;
      ends = ends;
    }
