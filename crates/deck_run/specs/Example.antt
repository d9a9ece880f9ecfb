-- Two decks that differ, and that look alike to an account that may write a data set and not read it.
use Rattle.std.specs.Prelude.{◌≢◌, ℕ, List, codes}
use Rattle.std.specs.Str.Lines.{lines}
use Rattle.mon_monitor.specs.Example.{ann}
use Rattle.deck_syntax.specs.Sections.{deck_of}
use Rattle.deck_run.specs.Isolation.{DecksAlike}

abbrev pub two_records : List ℕ
two_records = codes "$ACCOUNTS\nANN DESK\n$CATALOGUE\n$SET PAY BOB DESK 2\nuser::rwx,user:ANN:-w-,group::---,mask::-w-,other::---\nBOB 900\nSUE 800\n$STREAM\n$LIST ANN PAY\n$STOP\n"

abbrev pub one_record : List ℕ
one_record = codes "$ACCOUNTS\nANN DESK\n$CATALOGUE\n$SET PAY BOB DESK 1\nuser::rwx,user:ANN:-w-,group::---,mask::-w-,other::---\nBOB 700\n$STREAM\n$LIST ANN PAY\n$STOP\n"

abbrev pub TheyLookAlike : Type 0
TheyLookAlike = DecksAlike ann (deck_of (lines two_records)) (deck_of (lines one_record)) × (two_records ≢ one_record)
