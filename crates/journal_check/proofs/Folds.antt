-- What is kept while a journal is judged is what each checker keeps of it that reads no accounts.
use Rattle.std.proofs.Common.{◌≡◌, List, [], ◌∷◌, ◌++◌, refl, ap, ◌∙◌}
use Rattle.air_record.specs.declared.record.Record.{Record}
use Rattle.air_text.specs.Groups.{Group}
use Rattle.journal_air.specs.Checking as air
use Rattle.journal_form.specs.Checking as form
use Rattle.journal_queues.specs.QueueChecking as queues
use Rattle.journal_check.specs.Judging.{Judging, judging_line, judging_record, judging_records, all_judging}

-- a record more
pub records_more : (told : List Record) (one : Record) (j : Judging)
    → judging_records (told ++ one ∷ []) j ≡ judging_record one (judging_records told j)
records_more [] one j = refl
records_more (t ∷ told) one j = records_more told one (judging_record t j)

-- ---- the air

air_records : (told : List Record) (j : Judging)
    → (judging_records told j).blocks.air ≡ air.after_records told j.blocks.air
air_records [] j = refl
air_records (one ∷ told) j = air_records told (judging_record one j)

pub air_is : (past : List Group) → (all_judging past).blocks.air ≡ air.all_checked past
air_is [] = refl
air_is (now ∷ past) =
    ap (λ (c : air.Checking). air.after_group c) (air_records now.events (judging_line now.line (all_judging past))
    ∙ ap (λ (c : air.Checking). air.after_records now.events (air.after_line now.line c)) (air_is past))

-- ---- the form of blocks

form_records : (told : List Record) (j : Judging)
    → (judging_records told j).blocks.form ≡ form.checked told j.blocks.form
form_records [] j = refl
form_records (one ∷ told) j = form_records told (judging_record one j)

pub form_is : (past : List Group) → (all_judging past).blocks.form ≡ form.all_checked past
form_is [] = refl
form_is (now ∷ past) =
    ap (λ (c : form.Checking). form.after_group c)
    (form_records now.events (judging_line now.line (all_judging past))
    ∙ ap (λ (c : form.Checking). form.checked now.events (form.after_line now.line c)) (form_is past))

-- ---- queues

queues_records : (told : List Record) (j : Judging)
    → (judging_records told j).sends.queues ≡ queues.checked told j.sends.queues
queues_records [] j = refl
queues_records (one ∷ told) j = queues_records told (judging_record one j)

pub queues_is : (past : List Group) → (all_judging past).sends.queues ≡ queues.all_checked past
queues_is [] = refl
queues_is (now ∷ past) =
    ap (λ (c : queues.Checking). queues.after_group c)
    (queues_records now.events (judging_line now.line (all_judging past))
    ∙ ap (λ (c : queues.Checking). queues.checked now.events (queues.after_line now.line c)) (queues_is past))
