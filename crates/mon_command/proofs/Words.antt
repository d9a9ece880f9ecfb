-- The words of a denial, from those of the entry that decided.
use Rattle.std.proofs.Common.{◌≡◌, ap, ◌++◌, ◌∷◌, [], ℕ, List, append_assoc, sym}
use Rattle.std.specs.{Prelude.{codes}, Option.{unwrap_or}}
use Rattle.mon_acl.specs.{declared.entries.Entry.{Entry}, Entries.{tag_word}}
use Rattle.acl_text.specs.Printing.{entry_head}
use Rattle.interaction.specs.declared.answer.Reason.TheVariants as reason
use Rattle.mon_command.specs.Replies.{reason_text}

pub by_head : (entry : Entry) → codes "BY " ++ entry_head entry ≡ reason_text (reason.By entry.tag entry.name)
by_head entry =
    ap (λ (text : List ℕ). codes "BY " ++ (text ++ 58 ∷ [])) (sym (append_assoc (tag_word entry.tag) (58 ∷ []) (unwrap_or entry.name [])))
