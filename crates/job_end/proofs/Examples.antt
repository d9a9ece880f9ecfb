-- What worked jobs print, byte by byte.
use Rattle.std.proofs.Common.{◌≡◌, [], ◌∷◌, ◌++◌, None, refl}
use Rattle.std.specs.{Prelude.{codes}, Fmt.{digits}}
use Rattle.sno_text.specs.declared.fault.Fault.TheVariants.{Arithmetic}
use Rattle.sno_cards.specs.declared.refusal.SyntaxCode.TheVariants.{BadConstant}
use Rattle.sno_run.specs.declared.ending.Ending.TheVariants.{Normal, MatchLimit, Fault}
use Rattle.mon_acl.specs.declared.entries.Tag.TheVariants.{Mask}
use Rattle.interaction.specs.declared.answer.Reason.TheVariants.{By, NoSet, NoUnit}
use Rattle.mon_unit.specs.declared.note.{NoteAct.TheVariants.{Read, Write}, Why.TheVariants.{Denied, Full}}
use Rattle.mon_unit.specs.declared.note.NoteTarget.TheVariants as target
use Rattle.deck_lines.specs.declared.unit_error.UnitError.TheVariants.{UnitTwice}
use Rattle.load_refusal.specs.declared.load_error.LoadError.TheVariants.{NoAccount, Cards, Syntax}
use Rattle.job_end.specs.Printouts.{printout, refusal_text}

-- a copy to the spool, with an empty record
copied : printout (record {
  number = 1;
  account = codes "lisa";
  spool = codes "ADA 100" ∷ [] ∷ [];
  notes = [];
  ending = Normal;
  statements = 4;
}) ≡ codes "JOB 1 lisa\n ADA 100\n \nEND NORMAL AFTER 4\n"
unfolding digits
copied = refl

-- denials of units, and a set that is full
denied : printout (record {
  number = 2;
  account = codes "lisa";
  spool = [];
  notes = record { statement = 2; act = Write; target = target.Set (codes "PAYROLL"); why = Denied (By Mask None) }
      ∷ record { statement = 4; act = Read; target = target.Unit 20; why = Denied NoUnit }
      ∷ record { statement = 12; act = Read; target = target.Set (codes "GONE"); why = Denied NoSet }
      ∷ record { statement = 13; act = Write; target = target.Set (codes "BIG"); why = Full } ∷ [];
  ending = Fault Arithmetic 3;
  statements = 13;
}) ≡ codes "JOB 2 lisa\nDENIED STATEMENT 2 WRITE PAYROLL BY mask::\nDENIED STATEMENT 4 READ UNIT 20 NO UNIT\n"
    ++ codes "DENIED STATEMENT 12 READ GONE NO DATA SET\nFULL STATEMENT 13 WRITE BIG\nEND FAULT ARITH AT 3 AFTER 13\n"
unfolding digits
denied = refl

matched : printout (record { number = 10; account = codes "hugo"; spool = []; notes = []; ending = MatchLimit 2; statements = 2 })
    ≡ codes "JOB 10 hugo\nEND MATCH LIMIT AT 2 AFTER 2\n"
unfolding digits
matched = refl

unknown : refusal_text 3 (codes "eve") NoAccount ≡ codes "JOB 3 eve\nREFUSED M2 NO ACCOUNT\n"
unfolding digits
unknown = refl

tied_twice : refusal_text 1 (codes "lisa") (Cards (UnitTwice 8)) ≡ codes "JOB 1 lisa\nREFUSED U1 UNIT 8\n"
unfolding digits
tied_twice = refl

not_closed : refusal_text 1 (codes "lisa") (Syntax (record { code = BadConstant; place = record { card = 1; column = 7 } }))
    ≡ codes "JOB 1 lisa\nREFUSED P1 CARD 1 COLUMN 7\n"
unfolding digits
not_closed = refl
