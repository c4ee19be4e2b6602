-- The front of the bytes, and the head there.
use Rattle.std.proofs.Common.{◌≡◌, ℕ, ◌+◌, ◌*◌, ◌<◌, ◌≤◌, true, List, [], ◌∷◌, ◌++◌, length, take, drop, Ok, Err, refl, sym, ◌∙◌, ap, subst, arith, append-nil, length-append, length-drop}
use Rattle.std.specs.List.{All, flat_map}
use Rattle.std.proofs.lemmas.List.{take_all, take-append-drop, drop-append-le, drop-drop, length-take, length-take-le}
use Rattle.std.proofs.lemmas.Str.{IsUtf8-from_ascii}
use Rattle.std.proofs.lemmas.Str.Ascii.{IsAscii-from_all}
use Rattle.std.specs.Prelude.{IsUtf8}
use Rattle.std.proofs.lemmas.Bool.Decides.{nat_tests}
use Rattle.std.proofs.lemmas.List.Elements.{All-head, All-tail, All-weaker}
use Rattle.httparse.specs.Grammar.{is_token_byte, IsToken, Field, IsField, LineEnd, crlf, lf, print_end, print_field, RequestHead, print_request, ReadsRequest, HasNoRequest, MayBecomeRequest}
use Rattle.httparse.specs.Spans.{RequestExceeds, IsRequestAt, IsRequestWithin}
use Rattle.httparse.specs.declared.spans.HeaderSpan.{HeaderSpan}
use Rattle.httparse.specs.declared.spans.RequestSpans.{RequestSpans}
use Rattle.httparse.proofs.GrammarLemmas.{ReadsRequest-append}
use Rattle.http_wire.specs.Head.{size_of}
use Rattle.http_wire.specs.Requests.{head_limit, HasHead, IsPartOfHead, IsLongHead, RefusesHead, LacksBody}
use Rattle.http_wire.specs.Found.{IsHeadAt, AreTexts, IsTaken, TakesRequest}
use Rattle.http_wire.specs.declared.request.Request.{Request}

-- bytes within the limit are all of the front
pub take_short : (bytes : List ℕ) → length bytes < head_limit → take head_limit bytes ≡ bytes
take_short bytes h = take_all head_limit bytes (omega arith)

length-front : (bytes : List ℕ) → length (take head_limit bytes) ≤ head_limit
length-front bytes = omega (arith, length-take head_limit bytes)

pub part_of_head : (bytes front : List ℕ) → front ≡ take head_limit bytes → length bytes < head_limit → HasNoRequest front → MayBecomeRequest front
    → IsPartOfHead bytes
part_of_head bytes front is short none may =
    let same : front ≡ bytes = is ∙ take_short bytes short in
    record { short = short; no_head = subst HasNoRequest same none; may_become = subst MayBecomeRequest same may }

pub long_head : (bytes front : List ℕ) → front ≡ take head_limit bytes → head_limit ≤ length bytes → HasNoRequest front → MayBecomeRequest front
    → IsLongHead bytes 431
long_head bytes front is long none may =
    record { long = long; no_head = subst HasNoRequest is none; may_become = subst MayBecomeRequest is may; status_is = refl }

end_some : (e : LineEnd) → 0 < length (print_end e)
end_some crlf = omega arith
end_some lf = omega arith

field_size : (f : Field) → IsField f → 3 ≤ length (print_field f)
field_size f is = simp length-append (omega (arith, is.name.0, end_some f.end))

fields_size : (fields : List Field) → All IsField fields → 3 * length fields ≤ length (flat_map print_field fields)
fields_size [] all = omega arith
fields_size (f ∷ fields) all =
    let one : 3 ≤ length (print_field f) = field_size f (All-head IsField f fields all) in
    let more : 3 * length fields ≤ length (flat_map print_field fields) = fields_size fields (All-tail IsField f fields all) in
    let sum : length (flat_map print_field (f ∷ fields)) ≡ length (print_field f) + length (flat_map print_field fields) =
    length-append (print_field f) (flat_map print_field fields) in
    omega arith

head_size : (h : RequestHead) → length (flat_map print_field h.fields) ≤ length (print_request h)
unfolding print_request
head_size h = simp length-append (omega arith)

-- the room for headers is never too small
pub has_room : (bytes front : List ℕ) → front ≡ take head_limit bytes → RequestExceeds 8192 front → ⊥
has_room bytes front is (text, rest, split, h, reads, over) =
    let a : length front ≡ length text + length rest = ap length split ∙ length-append text rest in
    let b : length text + 1 ≡ length (print_request h) =
    sym (length-append text (10 ∷ [])) ∙ ap length reads.1 ∙ ap length (append-nil (print_request h)) in
    let d : length front ≡ length (take head_limit bytes) = ap length is in
    omega (arith, fields_size h.fields reads.0.fields, head_size h, length-front bytes)

-- ---- a whole head

-- the bytes begin with the head that the spans cover
pub head_of : (bytes front : List ℕ) (headers : List HeaderSpan) (spans : RequestSpans) (h : RequestHead) → front ≡ take head_limit bytes
    → IsRequestWithin front headers spans → IsRequestAt front headers spans h → HasHead bytes h (drop spans.len bytes)
head_of bytes front headers spans h is within at =
    let len_fits : spans.len ≤ length front = within.section.len_fits in
    let whole : front ++ drop head_limit bytes ≡ bytes =
    ap (λ (t : List ℕ). t ++ drop head_limit bytes) is ∙ take-append-drop head_limit bytes in
    let rest : drop spans.len front ++ drop head_limit bytes ≡ drop spans.len bytes =
    sym (drop-append-le spans.len front (drop head_limit bytes) len_fits) ∙ ap (drop spans.len) whole in
    let d : length front ≡ length (take head_limit bytes) = ap length is in
    record {
      reads =
          subst (λ (t : List ℕ). ReadsRequest bytes h t) rest
          (subst (λ (t : List ℕ). ReadsRequest t h (drop spans.len front ++ drop head_limit bytes)) whole
          (ReadsRequest-append front h (drop spans.len front) (drop head_limit bytes) at.reads));
      within = omega (arith, length-front bytes, at.len);
    }

token_is_ascii : (b : ℕ) → is_token_byte b ≡ true → b < 128
unfolding is_token_byte
token_is_ascii b token = grind (arith, nat_tests)

-- a token is text
pub token_text : (bytes : List ℕ) → IsToken bytes → IsUtf8 bytes
token_text bytes token =
    IsUtf8-from_ascii bytes (IsAscii-from_all bytes (All-weaker (λ b. is_token_byte b ≡ true) (λ b. b < 128) token_is_ascii bytes token.1))

pub are_texts : (front : List ℕ) (headers : List HeaderSpan) (spans : RequestSpans) (h : RequestHead) → IsRequestWithin front headers spans
    → IsRequestAt front headers spans h → AreTexts front spans
are_texts front headers spans h within at =
    record {
      len = within.section.len_fits;
      method_fits = within.method;
      path_fits = within.path;
      method = subst IsUtf8 (sym at.method) (token_text h.method at.reads.0.method);
      path = subst IsUtf8 (sym at.path) at.reads.0.target_text;
    }

-- the request that was taken is the one at the front
pub request_taken : (limit size : ℕ) (bytes front : List ℕ) (headers : List HeaderSpan) (spans : RequestSpans) (h : RequestHead) (found : Request × ℕ)
    → front ≡ take head_limit bytes → IsRequestWithin front headers spans → IsRequestAt front headers spans h → Ok size ≡ size_of limit h
    → spans.len + size ≤ length bytes → IsTaken front bytes spans size found → TakesRequest limit bytes found.0 found.1
request_taken limit size bytes front headers spans h found is within at size_is fits taken =
    let head : HasHead bytes h (drop spans.len bytes) = head_of bytes front headers spans h is within at in
    let after : ℕ = spans.len + size in
    let room : size ≤ length (drop spans.len bytes) = omega (arith, length-drop spans.len bytes) in
    let rest : found.0.body.items ++ drop found.1 bytes ≡ drop spans.len bytes =
    ap (λ (b : List ℕ). b ++ drop found.1 bytes) taken.body
    ∙ ap (λ (n : ℕ). take size (drop spans.len bytes) ++ drop n bytes) taken.end
    ∙ ap (λ (t : List ℕ). take size (drop spans.len bytes) ++ t) (sym (drop-drop size spans.len bytes))
    ∙ take-append-drop size (drop spans.len bytes) in
    let body_size : length found.0.body.items ≡ size = ap length taken.body ∙ length-take-le size (drop spans.len bytes) room in
    record {
      room = omega (arith, taken.end);
      gives =
          record {
            h = h;
            method_is = taken.method ∙ at.method;
            target_is = taken.target ∙ at.path;
            is_request =
                record {
                  head = subst (λ (t : List ℕ). HasHead bytes h t) (sym rest) head;
                  size = sym size_is ∙ ap Ok (sym body_size);
                };
          };
    }

-- what was found of the bytes, said of the front
pub record OnFront (bytes front : List ℕ) (headers : List HeaderSpan) (spans : RequestSpans) : Type 0 where
  pub is : front ≡ take head_limit bytes
  pub within : IsRequestWithin front headers spans
  pub h : RequestHead
  pub at : IsRequestAt front headers spans h
  pub len_fits : spans.len ≤ length bytes

pub on_front : (bytes front : List ℕ) (headers : List HeaderSpan) (spans : RequestSpans) → front ≡ take head_limit bytes → IsHeadAt bytes headers spans
    → OnFront bytes front headers spans
on_front bytes front headers spans is found =
    record {
      is = is;
      within = subst (λ (t : List ℕ). IsRequestWithin t headers spans) (sym is) found.within;
      h = found.h;
      at = subst (λ (t : List ℕ). IsRequestAt t headers spans found.h) (sym is) found.at;
      len_fits = omega (arith, found.within.section.len_fits, length-take head_limit bytes);
    }

-- a head that is refused
pub refused_head : (limit status : ℕ) (bytes front : List ℕ) (headers : List HeaderSpan) (spans : RequestSpans) (on : OnFront bytes front headers spans)
    → Err status ≡ size_of limit on.h → RefusesHead limit bytes status
refused_head limit status bytes front headers spans on e =
    record { h = on.h; rest = drop spans.len bytes; head = head_of bytes front headers spans on.h on.is on.within on.at; refusal = sym e }

-- a head whose body is not there yet
pub lacks_body : (limit size : ℕ) (bytes front : List ℕ) (headers : List HeaderSpan) (spans : RequestSpans) (on : OnFront bytes front headers spans)
    → Ok size ≡ size_of limit on.h → length bytes < spans.len + size → LacksBody limit bytes
lacks_body limit size bytes front headers spans on e less =
    record {
      h = on.h;
      rest = drop spans.len bytes;
      size = size;
      head = head_of bytes front headers spans on.h on.is on.within on.at;
      size_is = sym e;
      lacking = omega (arith, length-drop spans.len bytes, on.len_fits);
    }
