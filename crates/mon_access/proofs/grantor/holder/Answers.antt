-- The case that applies is the first whose test is passed.
use Rattle.std.proofs.Common.{rules, sym, ◌∙◌}
use Rattle.mon_access.proofs.grantor.holder.Goals as goal

pub returns-then-eq : goal.returns-then-eq
returns-then-eq c = rw (sym c.eq.ensures ∙ c.if-eq.true) (search rules)

pub returns-then-names_account : goal.returns-then-names_account
returns-then-names_account c = rw (sym c.eq.ensures ∙ c.if-eq.false, sym c.names_account.ensures ∙ c.if-names_account.true) (search rules)

pub returns-then-has_mask : goal.returns-then-has_mask
returns-then-has_mask c = rw (sym c.eq.ensures ∙ c.if-eq.false, sym c.names_account.ensures ∙ c.if-names_account.false, sym c.names_groups.ensures ∙ c.if-names_groups.true, sym c.has_mask.ensures ∙ c.if-has_mask.true) (search rules)

pub returns-else-has_mask : goal.returns-else-has_mask
returns-else-has_mask c = rw (sym c.eq.ensures ∙ c.if-eq.false, sym c.names_account.ensures ∙ c.if-names_account.false, sym c.names_groups.ensures ∙ c.if-names_groups.true, sym c.has_mask.ensures ∙ c.if-has_mask.false) (search rules)

pub returns-else-names_groups : goal.returns-else-names_groups
returns-else-names_groups c = rw (sym c.eq.ensures ∙ c.if-eq.false, sym c.names_account.ensures ∙ c.if-names_account.false, sym c.names_groups.ensures ∙ c.if-names_groups.false) (search rules)
