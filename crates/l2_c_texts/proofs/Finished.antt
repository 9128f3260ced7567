-- What a command did with the front of a text that it read is what the whole text gives.
use Rattle.std.proofs.Common.{◌≡◌, ◌≢◌, ◌⊎◌, ℕ, Bool, true, false, List, [], ◌++◌}
use Rattle.std.proofs.Common.{Option, None, Some}
use Rattle.std.proofs.Common.{refl, ap, ◌∙◌, arith, inl, inr}
use Rattle.std.proofs.lemmas.List.{append-nil}
use Rattle.l2_io.specs.Known.{before, IsAtEnd, HasRisen}
use Rattle.l2_io.specs.Machines.{Keeper}
use Rattle.air_record.specs.Text.{text_of}
use Rattle.air_record.specs.declared.record.Record.{Record}
use Rattle.air_run.specs.Journal.{RunPlayed}
use Rattle.air_run.specs.Refusals.{refusal_word}
use Rattle.air_run.specs.declared.refusal.RunRefusal.{RunRefusal}
use Rattle.line_player.proofs.Final.{shown-is-final}
use Rattle.l2_commands.specs.Generating.{over}
use Rattle.line_player.specs.Answers.{Runs, Row}
use Rattle.line_player.specs.Journal.{Player, Waiting, journal_by}
use Rattle.line_player.specs.declared.status.Status.{Status}
use Rattle.line_player.specs.declared.status.Status.TheVariants as statuses
use Rattle.l2_c_texts.specs.Texts.{nothing_put, held_by, Gives}

-- a count of 0 hasn't risen
stays : HasRisen 0 0 → ⊥
stays h = elim h.rose [ inl l ↦ omega (arith, l) | inr l ↦ omega (arith, l) ]

-- the whole text's journal, where that of the front is settled
whole_is : {S : Type 0} (m : Player S Record RunRefusal) (text given : List ℕ) (left : Option (List ℕ)) (whole : Bool)
    → Some text ≡ before given left → (whole ≡ true → IsAtEnd left)
    → (journal_by m whole given).close ≢ Waiting
    → journal_by m true text ≡ journal_by m whole given
whole_is m text given None whole e end shows = absurd cc
whole_is m text given (Some left) true e end shows =
    let none : left ≡ [] = end refl in
    let same : text ≡ given ++ left = cc in
    ap (λ (xs : List ℕ). journal_by m true xs) (same ∙ rw none (append-nil given))
whole_is m text given (Some left) false e end shows =
    let same : text ≡ given ++ left = cc in
    ap (λ (xs : List ℕ). journal_by m true xs) same ∙ shown-is-final m true m.first 1 given left shows

-- by what the command answered
shown_by : (played : RunPlayed) (text : List ℕ) (left : Option (List ℕ)) (out errs : Keeper) (status : Status)
    → Row text_of refusal_word played (over (Some text) nothing_put nothing_put)
    (over left (held_by out) (held_by errs)) status
    → Gives played status out.octets errs.octets × ((status ≡ statuses.NoMemory) ⊎ (played.close ≢ Waiting))
shown_by played text left out errs statuses.Done row =
    (record { ends = rw row.0 refl; journal = cc; message = rw row.0 cc }, inr (λ w. absurd cc))
shown_by played text left out errs statuses.Usage row = absurd row
shown_by played text left out errs statuses.Refused row =
    (record { ends = rw row.0.close refl; journal = cc; message = rw row.0.close cc }, inr (λ w. absurd cc))
shown_by played text left out errs statuses.ReadFault row = absurd (stays row.2)
shown_by played text left out errs statuses.WriteFault row =
    absurd (elim row [ inl l ↦ stays l.1 | inr r ↦ stays r.2 ])
shown_by played text left out errs statuses.NoMemory row = (tt, inl refl)

pub given : {S : Type 0} (m : Player S Record RunRefusal) (text : List ℕ) (left : Option (List ℕ))
    (out errs : Keeper) (status : Status)
    → Runs text_of refusal_word (λ whole octets. journal_by m whole octets) (over (Some text) nothing_put nothing_put)
    (over left (held_by out) (held_by errs)) status
    → Gives (journal_by m true text) status out.octets errs.octets
given m text left out errs status runs =
    let shown = shown_by (journal_by m runs.whole runs.given) text left out errs status runs.row in
    elim shown.1 [
      | inl none ↦ rw none tt
      | inr shows ↦ rw (whole_is m text runs.given left runs.whole runs.left_is runs.end shows) shown.0
    ]
