use Rattle.std.proofs.Common.{◌≡◌, ◌∷◌, codes, refl, sym, ap, ◌∙◌, subst}
use Rattle.lj_text.specs.Tokens.{words, words_of}
use Rattle.lj_script.specs.LineForms.{NamesCell}
use Rattle.lj_script.specs.Faults.{SpoilsFrame}
use Rattle.lj_script.proofs.reading.read_frame.Goals as goal

pub new-requires : goal.new-requires
new-requires c = let named = c.in-Some-rest_cell.ensures.some (codes "frame") in named.some

pub returns-in-None-clause-fault : goal.returns-in-None-clause-fault
returns-in-None-clause-fault c =
    let line = c.in-Some.line in
    let left = c.next-2.new.self in
    let is : words c.args.bytes.now line ≡ codes "frame" ∷ left =
    ap words_of (sym c.text_of.ensures) ∙ sym c.of-words.ensures ∙ c.in-Some-next.ensures.steps
    ∙ ap (λ w. w ∷ left) (c.is_word.ensures.0 c.if-is_word.true) in
    subst (λ ls. SpoilsFrame c.args.bytes.now ls line.number) (sym c.in-Some.ensures.steps) (
      refl,
      (left, is),
      λ frame names. c.in-None.ensures.none (codes "frame") frame.top
          (subst (λ ws. NamesCell (codes "frame") ws frame.top) is names),
    )
