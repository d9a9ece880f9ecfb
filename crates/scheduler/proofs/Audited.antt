-- What is put to an audit along a turn: the lines of all that is asked in it.
use Rattle.std.proofs.Common.{◌≡◌, ℕ, List, [], ◌∷◌, ◌++◌, length, take, sym, ap, ◌∙◌, subst}
use Rattle.scheduler.proofs.Common.{Returns, Asks, AnswersAll, Request, Answer, Asking, Exchange, IsTrace, IsTracePrefix, Account, Standing, Puts, puts_nothing, puts_then, UnitService, Reach, serve, UnitAnswers, reach_of, UnitState, Sets, exchange_line, Audited, AuditCache, KeptFits, asked_by, exchanged_lines, Step, Job, Done, StillKept}

module _ {T : Type 0} (number : T → ℕ) (unit : T → UnitService) (standing : T → Standing) (answers : T → Request → Answer → T → Type 0)
    (each : (s : T) (q : Request) (r : Answer) (m : T) → answers s q r m → Audited (number s) (unit s) (standing s) q r (number m) (unit m) (standing m)) where
  -- the units answered
  pub units_answer : (s : T) (x : List Exchange) (s' : T) → AnswersAll answers s x s' → AnswersAll UnitAnswers (unit s) x (unit s')
  units_answer s [] s' h = ap unit h
  units_answer s (e ∷ x) s' h = (unit h.0, (each s e.asked e.reply h.0 h.1).served, units_answer h.0 x s' h.2)

  module _ (n : ℕ) (a : Account) (s : T) (e : Exchange) (q : Request) (m : T) (num : number s ≡ n) (is : (unit s).account.now ≡ a) (same : e.asked ≡ q) (h : answers s e.asked e.reply m) where
    one : Audited (number s) (unit s) (standing s) e.asked e.reply (number m) (unit m) (standing m)
    one = each s e.asked e.reply m h

    one_served : serve a (reach_of (unit s)) q ≡ (e.reply, reach_of (unit m))
    one_served =
        subst (λ (k : Account). serve k (reach_of (unit s)) q ≡ (e.reply, reach_of (unit m))) is
        (subst (λ (k : Request). serve (unit s).account.now (reach_of (unit s)) k ≡ (e.reply, reach_of (unit m))) same one.served.1)

    one_put : Puts (standing s) (standing m) (exchange_line n a (reach_of (unit s)) q e.reply)
    one_put =
        subst (λ (k : Request). Puts (standing s) (standing m) (exchange_line n a (reach_of (unit s)) k e.reply)) same
        (subst (λ (k : Account). Puts (standing s) (standing m) (exchange_line n k (reach_of (unit s)) e.asked e.reply)) is
        (subst (λ (k : ℕ). Puts (standing s) (standing m) (exchange_line k (unit s).account.now (reach_of (unit s)) e.asked e.reply)) num one.put))

    still_number : number m ≡ n
    still_number = one.number ∙ num

    still : (unit m).account.now ≡ a
    still = ap (λ x. x.now) one.served.0.account ∙ is

  -- of all that an interaction asked
  pub lines_put : {A : Type 0} (n : ℕ) (a : Account) (t : Asking A) (s : T) (x : List Exchange) (b : A) (s' : T) → number s ≡ n → (unit s).account.now ≡ a
      → AnswersAll answers s x s' → IsTrace t x b → Puts (standing s) (standing s') (exchanged_lines (asked_by n a t (reach_of (unit s))))
  lines_put n a (Returns v) s [] b s' num is h g = subst (λ (u : T). Puts (standing s) (standing u) []) (sym h) (puts_nothing (standing s))
  lines_put n a (Returns v) s (e ∷ x) b s' num is h g = absurd g
  lines_put n a (Asks q f) s [] b s' num is h g = absurd g
  lines_put n a (Asks q f) s (e ∷ x) b s' num is h g =
      subst (λ (p : Answer × Reach). Puts (standing s) (standing s') (exchange_line n a (reach_of (unit s)) q p.0 ++ exchanged_lines (asked_by n a (f p.0) p.1)))
      (sym (one_served n a s e q h.0 num is g.0 h.1))
      (puts_then (standing s) (standing h.0) (standing s') (exchange_line n a (reach_of (unit s)) q e.reply) (exchanged_lines (asked_by n a (f e.reply) (reach_of (unit h.0))))
      (one_put n a s e q h.0 num is g.0 h.1)
      (lines_put n a (f e.reply) h.0 x b s' (still_number n a s e q h.0 num is g.0 h.1) (still n a s e q h.0 num is g.0 h.1) h.2 g.2))

  -- and of what was asked of one that was broken off
  pub lines_cut : {A : Type 0} (n : ℕ) (a : Account) (t : Asking A) (s : T) (x : List Exchange) (s' : T) → number s ≡ n → (unit s).account.now ≡ a
      → AnswersAll answers s x s' → IsTracePrefix t x → Puts (standing s) (standing s') (exchanged_lines (take (length x) (asked_by n a t (reach_of (unit s)))))
  lines_cut n a t s [] s' num is h g = subst (λ (u : T). Puts (standing s) (standing u) []) (sym h) (puts_nothing (standing s))
  lines_cut n a (Returns v) s (e ∷ x) s' num is h g = absurd g
  lines_cut n a (Asks q f) s (e ∷ x) s' num is h g =
      subst (λ (p : Answer × Reach). Puts (standing s) (standing s') (exchange_line n a (reach_of (unit s)) q p.0 ++ exchanged_lines (take (length x) (asked_by n a (f p.0) p.1))))
      (sym (one_served n a s e q h.0 num is g.0 h.1))
      (puts_then (standing s) (standing h.0) (standing s') (exchange_line n a (reach_of (unit s)) q e.reply) (exchanged_lines (take (length x) (asked_by n a (f e.reply) (reach_of (unit h.0)))))
      (one_put n a s e q h.0 num is g.0 h.1)
      (lines_cut n a (f e.reply) h.0 x s' (still_number n a s e q h.0 num is g.0 h.1) (still n a s e q h.0 num is g.0 h.1) h.2 g.2))

-- what each exchange keeps
pub stays : {T : Type 0} (name : T → ℕ) (answers : T → Request → Answer → T → Type 0) → ((s : T) (q : Request) (r : Answer) (m : T) → answers s q r m → name m ≡ name s)
    → (s : T) (x : List Exchange) (s' : T) → AnswersAll answers s x s' → name s' ≡ name s
stays name answers each s [] s' h = ap name h
stays name answers each s (e ∷ x) s' h = stays name answers each h.0 x s' h.2 ∙ each s e.asked e.reply h.0 h.1

-- the same turn, where what is left is called otherwise
pub done_as : (n : ℕ) (job : Job) (s : UnitService) (st : Step) (job' : Job) (t t' : UnitService) (p q q' : Standing) → t' ≡ t → q' ≡ q → Done n job s st job' t p q → Done n job s st job' t' p q'
done_as n job s st job' t t' p q q' left stands done =
    subst (λ (v : UnitService). Done n job s st job' v p q') (sym left) (subst (λ (y : Standing). Done n job s st job' t p y) (sym stands) done)

-- and words that are kept
pub still_kept : (n : ℕ) (s s' : UnitService) (k k' : AuditCache) → k.number ≡ n → s' ≡ s → k' ≡ k → KeptFits k.number s.account.now (reach_of s) k → StillKept n s' k'
still_kept n s s' k k' number service kept fits =
    subst (λ (x : UnitService). StillKept n x k') (sym service)
    (subst (λ (x : AuditCache). StillKept n s x) (sym kept)
    (record { number = number; fits = subst (λ (x : ℕ). KeptFits x s.account.now (reach_of s) k) number fits }))

pub kept_given : (n : ℕ) (s : UnitService) (account : Account) (sets : Sets) (units : UnitState) (kept : AuditCache) → StillKept n s kept → s.account.now ≡ account
    → reach_of s ≡ record { sets = sets; units = units } → KeptFits n account (record { sets = sets; units = units }) kept
kept_given n s account sets units kept still is reach =
    subst (λ (a : Account). KeptFits n a (record { sets = sets; units = units }) kept) is (subst (λ (r : Reach). KeptFits n s.account.now r kept) reach still.fits)

-- both are of the job of the slot, where the words are kept of that
pub done_of : (n n' : ℕ) (job : Job) (s : UnitService) (st : Step) (job' : Job) (s' : UnitService) (p q : Standing) → n ≡ n' → Done n job s st job' s' p q → Done n' job s st job' s' p q
done_of n n' job s st job' s' p q same done = subst (λ (x : ℕ). Done x job s st job' s' p q) same done

pub kept_of : (n n' : ℕ) (s : UnitService) (kept : AuditCache) → n ≡ n' → StillKept n s kept → StillKept n' s kept
kept_of n n' s kept same still = subst (λ (x : ℕ). StillKept x s kept) same still
