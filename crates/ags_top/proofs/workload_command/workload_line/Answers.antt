use Rattle.std.proofs.Common.{◌≡◌, ◌++◌, length, append_assoc}
use Rattle.std.specs.String.{string_bytes}
use Rattle.std.specs.Prelude.{codes}
use Rattle.std.specs.Fmt.{decimal}
use Rattle.std.proofs.lemmas.Result.{IfOk-weaker}
use Rattle.ags_asm.specs.Source.{card_words, placed_words}
use Rattle.ags_program.specs.Text.{workload_line}
use Rattle.ags_top.proofs.WorkloadLemmas.{card_words_count}
use Rattle.ags_top.proofs.workload_command.workload_line.Goals as goal

pub returns : goal.returns
returns c =
    let made = c.args.made.now in
    rw (card_words_count made.image made.cards.items)
    (IfOk-weaker c.format.result _ (λ text. string_bytes text ≡ workload_line c.args.size (length made.cards.items) (length (placed_words (card_words made))) c.args.rows c.args.cases) (λ text is.
    let e : string_bytes text ≡ codes "WORKLOAD " ++ (decimal c.args.size ++ (codes " CARDS " ++ (decimal c.card_count-cards.result ++ (codes " WORDS " ++ (decimal c.in-Some.words
    ++ (codes " ROWS " ++ (decimal c.args.rows ++ (codes " CASES " ++ (decimal c.args.cases ++ codes " CERTIFIED\n"))))))))) = is in
    simp append_assoc (rw (c.card_count-cards.ensures, c.deref.ensures.value, c.in-Some.ensures made.image, c.deref-2.ensures.value) at e)) c.format.ensures.ok)
