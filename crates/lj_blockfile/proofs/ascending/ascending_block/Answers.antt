use Rattle.std.proofs.Common.{◌-◌, [], ◌∷◌, ◌++◌, ap, arith, length, subst, sym, ◌∙◌}
use Rattle.std.proofs.lemmas.List.{length_push}
use Rattle.lj_base.proofs.Ascending.{AllBelow-from_Ascends, Ascends-wider}
use Rattle.lj_blockfile.proofs.Numerals.{IsBlockLine-whole, IsReadTo, IsReadTo-first, IsReadTo-next}
use Rattle.lj_blockfile.proofs.ascending.ascending_block.Goals as goal

pub loop-last-init : goal.loop-last-init
loop-last-init c =
    let last = c.in_ok-last.last in
    let known = c.in_ok-last.ensures in
    let block = c.push.ensures ∙ ap (λ b. b ++ (last.value - 1) ∷ []) c.empty-block.ensures in
    record {
      read =
          subst (IsReadTo c.args.line.now last.value last.end) (sym block)
          (IsReadTo-first c.args.line.now last.value last.end known.value.0 known.within known.text);
      few = let one = ap length block in omega (arith, one);
    }

pub push-requires-in-loop-last-clause-greatest : goal.push-requires-in-loop-last-clause-greatest
push-requires-in-loop-last-clause-greatest c =
    let point = c.in_ok-next.next.value - 1 in
    AllBelow-from_Ascends 0 point c.loop-last.block
    (Ascends-wider 0 0 c.loop-last.last.value point c.loop-last.block (omega arith) (omega arith)
    c.loop-last.invariant.read.ascends)

pub loop-last-preserved : goal.loop-last-preserved
loop-last-preserved c =
    let next = c.in_ok-next.next in
    let known = c.in_ok-next.ensures in
    let block = c.push-in-loop-last.ensures in
    record {
      read =
          subst (IsReadTo c.args.line.now next.value next.end) (sym block)
          (IsReadTo-next c.loop-last.invariant.read (omega arith) c.if-line-last-ne32.false (omega arith) known.within
          known.text);
      few =
          let one = ap length block in
          omega (arith, one, length_push c.loop-last.block (next.value - 1));
    }

pub returns : goal.returns
returns c =
    IsBlockLine-whole c.block_line_law.ensures.reads_back c.args.v c.args.k (omega arith) c.loop-last.invariant.read
    (omega arith) (omega arith) (omega arith)
