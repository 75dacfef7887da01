use Rattle.std.proofs.Common.{◌≡◌, ◌∙◌, [], length, ap, arith, subst, sym}
use Rattle.lj_deriv.specs.Nodes.{Nodes}
use Rattle.lj_deriv.specs.Copies.{HasUploads, IsCopyOf}
use Rattle.lj_deriv.proofs.CopySteps.{IsCopied-start}
use Rattle.lj_deriv.proofs.copying.copied.Goals as goal

pub loop-node-init : goal.loop-node-init
loop-node-init c =
    let a = c.args.arena.now in
    let p = c.reserve.new.self in
    let numbers = c.args.numbers.now in
    let same = c.in_ok-reserve.ensures.ok in
    let rules : p.rules ≡ [] = ap (λ (b : Nodes). b.rules) same ∙ c.in_ok-copying.ensures.no_nodes in
    let spare = ap (λ (b : Nodes). b.spare) same in
    let named = c.in_ok-named.named.items in
    let places = c.in_ok-copying.copying.uploads.items in
    let h = subst (λ ns. HasUploads a ns places c.in_ok-copying.copying.plan) c.deref.ensures.value
    c.in_ok-copying.ensures.uploads in
    record {
      len = ap length rules;
      copying = record {
        closed = c.requires;
        named_by = c.in_ok-named.ensures;
        uploads_copied =
            subst (λ (b : Nodes). HasUploads a named places b) (sym same)
            (record { frame = h.frame; len = h.len; few = h.few; copies = h.copies; places_kept = h.places_kept });
        all_uploads =
            ap (λ (b : Nodes). length b.uploads) same ∙ c.in_ok-copying.ensures.all ∙ ap length c.deref.ensures.value;
        copied =
            IsCopied-start a p numbers named rules (omega (arith, spare));
      };
    }

pub returns : goal.returns
returns c =
    let whole : IsCopyOf c.args.arena.now c.args.numbers.now c.loop-node.copying.plan = record {
      named = c.in_ok-named.named.items;
      uploads = c.loop-node.copying.uploads.items;
      copying = c.loop-node.invariant.copying;
      all = omega (arith, c.loop-node.invariant.len, c.loop-node-test.false, c.loop-node.auto);
      valid = c.len-count.ensures.valid;
    } in
    whole
