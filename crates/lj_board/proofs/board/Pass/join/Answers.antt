use Rattle.std.proofs.Common.{◌≡◌, ◌∙◌, rules, length, min, sym, ap, ap₂, subst, subst₂}
use Rattle.atomic_table.specs.Table.{Me}
use Rattle.lj_base.specs.Cells.{Triple}
use Rattle.lj_base.specs.Frames.{size_of}
use Rattle.lj_board.specs.declared.steps.View.{View}
use Rattle.lj_board.specs.Seen.{BoardView, NoneRises, PassView, lesser, seen_of}
use Rattle.lj_board.proofs.Framed.{frame_of, pass_of, same_board}
use Rattle.lj_board.proofs.Lessers.{joined_falls, joined_least, length-lesser}
use Rattle.lj_board.proofs.Moves.{joins}
use Rattle.lj_board.proofs.board.Pass.join.Goals as goal

pub join_seat-requires : goal.join_seat-requires
join_seat-requires g c =
    let f = g.J.Setting.frame in
    let fr = frame_of f _ _ _ _ c.self.view_is c.requires.board c.board.view_is c.board.invariant.0 in
    let fo = frame_of f _ _ _ _ c.other.view_is c.requires.other c.board.view_is c.board.invariant.0 in (
      search rules,
      search rules,
      search rules,
      search rules,
      joins f g.J.Setting.allowed _ _ _ _ fr (c.self.invariant.1 ∙ ap size_of fr)
          (c.other.invariant.1 ∙ ap size_of fo),
    )

pub invariant_of-self : goal.invariant_of-self
invariant_of-self g c =
    let f = g.J.Setting.frame in
    let e = c.join_seat.ensures.2 in
    let fr = frame_of f _ _ _ _ c.self.view_is c.requires.board c.board.view_is c.board.invariant.0 in
    let fo = frame_of f _ _ _ _ c.other.view_is c.requires.other c.board.view_is c.board.invariant.0 in (
      ap (λ (m : Me (Unit {0}) View). m.1) e ∙ c.self.invariant.0,
      ap (λ (m : Me (Unit {0}) View). length m.0.seen) e
          ∙ length-lesser _ _ (c.self.invariant.1 ∙ ap size_of fr ∙ sym (c.other.invariant.1 ∙ ap size_of fo))
          ∙ c.self.invariant.1 ∙ ap size_of (sym (ap (λ (m : Me (Unit {0}) View). m.0.frame) e)),
    )

pub returns-clause-least : goal.returns-clause-least
returns-clause-least g c =
    let p : PassView = pass_of c.self.inside.seat.table_id c.self.inside.seat.me in
    let q : PassView = pass_of c.other.inside.seat.table_id c.other.inside.seat.me in
    let r : PassView = pass_of c.join_seat.new.seat.table_id c.join_seat.new.seat.me in
    let joined : r ≡ record { board = p.board; seen = lesser p.seen q.seen } =
    ap₂ pass_of c.join_seat.ensures.0 c.join_seat.ensures.2 in
    let same : q.board ≡ p.board = same_board p q _ _ _ c.self.view_is c.other.view_is c.requires.board
    c.requires.other in
    let len : length p.seen ≡ length q.seen = c.self.invariant.1 ∙ ap (λ (b : BoardView). size_of b.frame) (sym same)
    ∙ sym c.other.invariant.1 in
    subst₂ (λ (x y : PassView). (d : Triple) → seen_of r d ≡ min (seen_of x d) (seen_of y d)) c.self.view_is
    c.other.view_is (joined_least p q r joined same len)

pub returns-clause-falls : goal.returns-clause-falls
returns-clause-falls g c =
    let p : PassView = pass_of c.self.inside.seat.table_id c.self.inside.seat.me in
    let q : PassView = pass_of c.other.inside.seat.table_id c.other.inside.seat.me in
    let r : PassView = pass_of c.join_seat.new.seat.table_id c.join_seat.new.seat.me in
    let joined : r ≡ record { board = p.board; seen = lesser p.seen q.seen } =
    ap₂ pass_of c.join_seat.ensures.0 c.join_seat.ensures.2 in
    let same : q.board ≡ p.board = same_board p q _ _ _ c.self.view_is c.other.view_is c.requires.board
    c.requires.other in
    let len : length p.seen ≡ length q.seen = c.self.invariant.1 ∙ ap (λ (b : BoardView). size_of b.frame) (sym same)
    ∙ sym c.other.invariant.1 in
    subst (λ (x : PassView). NoneRises x r) c.self.view_is (joined_falls p q r joined same len).0

pub returns-clause-joined : goal.returns-clause-joined
returns-clause-joined g c =
    let p : PassView = pass_of c.self.inside.seat.table_id c.self.inside.seat.me in
    let q : PassView = pass_of c.other.inside.seat.table_id c.other.inside.seat.me in
    let r : PassView = pass_of c.join_seat.new.seat.table_id c.join_seat.new.seat.me in
    let joined : r ≡ record { board = p.board; seen = lesser p.seen q.seen } =
    ap₂ pass_of c.join_seat.ensures.0 c.join_seat.ensures.2 in
    let same : q.board ≡ p.board = same_board p q _ _ _ c.self.view_is c.other.view_is c.requires.board
    c.requires.other in
    let len : length p.seen ≡ length q.seen = c.self.invariant.1 ∙ ap (λ (b : BoardView). size_of b.frame) (sym same)
    ∙ sym c.other.invariant.1 in
    subst (λ (x : PassView). NoneRises x r) c.other.view_is (joined_falls p q r joined same len).1
