use Rattle.std.proofs.Common.{Bor, ◌≡◌, ◌++◌, List, map, sym, ap, ap₂, ◌∙◌, w64}
use Rattle.std.proofs.lemmas.Int.{to_z-of_z}
use Rattle.std.proofs.lemmas.Simd.{map-map}
use Rattle.action_types.specs.declared.actions.Action.{Action}
use Rattle.action_types.specs.declared.actions.Action.TheVariants as act
use Rattle.action_types.specs.declared.actions.Add.{Add}
use Rattle.action_types.specs.declared.actions.Domain.{Domain}
use Rattle.action_types.specs.declared.actions.Remove.{Remove}
use Rattle.staged_commit.specs.Sorting.{sorted}
use Rattle.staged_commit.specs.Writes.{adds_cmp, domains_cmp, removes_cmp, with_time}
use Rattle.staged_commit.proofs.Composing.{joined}
use Rattle.staged_commit.proofs.contents.with_contents.Goals as goal

pub returns : goal.returns
returns c =
    let intent = c.args.intent.now in
    let time = c.args.time in
    let fd : Bor Domain → Domain = λ x. x.now in
    let fr : Bor Remove → Remove = λ x. x.now in
    let fa : Bor Add → Add = λ x. x.now in
    let dated : Remove → Action = λ r. act.Remove (with_time time r) in
    let domains : map (λ (x : Bor Domain). act.Domain x.now) c.deref.result.now ≡ map act.Domain (sorted domains_cmp intent.domains) =
    sym (map-map act.Domain fd c.deref.result.now)
    ∙ ap (map act.Domain) (ap (map fd) c.deref.ensures.value ∙ c.in_ok-domains.ensures ∙ ap (sorted domains_cmp) c.as_slice.ensures) in
    let removes : map (λ (x : Bor Remove). act.Remove (with_time time x.now)) c.deref-2.result.now ≡ map dated (sorted removes_cmp intent.removes) =
    sym (map-map dated fr c.deref-2.result.now)
    ∙ ap (map dated) (ap (map fr) c.deref-2.ensures.value ∙ c.in_ok-removes.ensures ∙ ap (sorted removes_cmp) c.as_slice-2.ensures) in
    let adds : map (λ (x : Bor Add). act.Add x.now) c.deref-3.result.now ≡ map act.Add (sorted adds_cmp intent.adds) =
    sym (map-map act.Add fa c.deref-3.result.now)
    ∙ ap (map act.Add) (ap (map fa) c.deref-3.ensures.value ∙ c.in_ok-adds.ensures ∙ ap (sorted adds_cmp) c.as_slice-3.ensures) in
    let first = c.in_ok-actions.ensures ∙ ap (λ l. c.args.actions.items ++ l) domains in
    let second = c.in_ok-actions-2.ensures
    ∙ ap (λ t. c.in_ok-actions.actions.items ++ map (λ (x : Bor Remove). act.Remove (with_time t x.now)) c.deref-2.result.now) (to_z-of_z w64 time c.ranges.time)
    ∙ ap (λ l. c.in_ok-actions.actions.items ++ l) removes in
    let third = c.in_ok-actions-3.ensures ∙ ap (λ l. c.in_ok-actions-2.actions.items ++ l) adds in
    joined c.args.actions.items c.in_ok-actions.actions.items c.in_ok-actions-2.actions.items c.in_ok-actions-3.actions.items _ _ _ first second third
