-- The words of these proofs: definitions, and lemmas of the crates below.
pub use Rattle.audit.proofs.{Named.{read_named}, Ordered.{ordered_is}}
pub use Rattle.audit.specs.{Ordered.{ordered_lines}, Grants.{by_entry, by_owner, command_grant, granting_entry, to_see_list}, inner.Parts.{lines_after}}
pub use Rattle.audit.specs.{Laws.{ChangesAreNamed, EntriesAreNamed, GrantsAreNamed}, declared.grants.Grant.TheVariants.{AsOwner, ByEntry}}
pub use Rattle.deck_lines.specs.{Commands.{account_of}, declared.command.Command.{Command}}
pub use Rattle.deck_lines.specs.declared.command.Command.TheVariants.{Catalog, Create, Delete, SetAcl, ShowAcl}
pub use Rattle.deck_syntax.specs.declared.job_deck.{JobDeck.{JobDeck}, UnitCard.{UnitCard}}
pub use Rattle.interaction.proofs.{Counting.{plain_ends, plain_told, with_request, with_statement}, Enough.{each_ends}}
pub use Rattle.interaction.{proofs.Told.{begins_first, begins_then, tells_then}, specs.declared.request.Act.TheVariants.{Endfile, Read, Rewind, Write}}
pub use Rattle.interaction.specs.Counting.{Beginning, Counted, IsTrace, IsTracePrefix, Moment, MomentFits, Passed, Requesting, requests_in, statements_in}
pub use Rattle.interaction.specs.{Asking.{Asking, Exchange}, Endings.{EndsIn}, Fitting.{fits}, Interactions.{Asks, Returns}, declared.answer.Answer.{Answer}}
pub use Rattle.interaction.specs.declared.answer.{Answer.TheVariants.{Denied, Done, EndOfFile, Full, Got}, Reason.{Reason}}
pub use Rattle.interaction.specs.declared.{answer.Reason.TheVariants.{By, NoSet, NotOwner}, request.Act.{Act}, request.Request.{Request}}
pub use Rattle.job_end.specs.{AuditLines.{ended_line, loaded_line, refused_line}, Printouts.{printout, refusal_text}, declared.job_end.JobEnd.{JobEnd}}
pub use Rattle.job_end.specs.declared.turned.Turned.{Turned, TheVariants.{Empty, Goes}}
pub use Rattle.load_refusal.specs.{Loads.{cards_refused, job_refusal, missing, program_refusal}, declared.load_error.LoadError.{LoadError}}
pub use Rattle.load_refusal.specs.declared.load_error.LoadError.TheVariants.{Cards, NoAccount, NoSlot, Syntax}
pub use Rattle.mon_access.specs.{Accounts.{find_account}, Matches.{is_owner}, declared.access.Decision.{Decision}, declared.account.Account.{Account}}
pub use Rattle.acl_text.specs.{Forms.{list_of_text}, declared.text.AclText.{AclText}}
pub use Rattle.mon_acl.specs.declared.{entries.Perms.{Perms}, entries.Tag.TheVariants.{GroupObj, Other, UserObj}, refusals.AclError.{AclError}}
pub use Rattle.mon_catalogue.proofs.{Changed.{named_set_changes, order_stays, other_sets_stay}, Shorthand.{listed}}
pub use Rattle.mon_catalogue.specs.{Changes.{with_acl, with_changed, without_set}, Sets.{NamesDiffer, Sets, create_refusal, find_set}}
pub use Rattle.mon_catalogue.specs.{Writing.{Add, Change, Cut, Put, change_refusal, recorded, records_after, writing}, declared.data_set.DataSet.{DataSet}}
pub use Rattle.mon_catalogue.specs.declared.catalogue.CreateError.{CreateError, TheVariants.{CatalogueFull, NameTaken}}
pub use Rattle.mon_catalogue.specs.declared.{data_set.SetFull.{SetFull}, mode.Mode.{Mode}, mode.Mode.TheVariants.{Append, Seq}}
pub use Rattle.mon_command.proofs.Shorthand.{served_if_known}
pub use Rattle.mon_command.specs.{Laws.{IsKnown}, Printouts.{count_line, word}, Saying.{said_of}, declared.reply.Reply.{Reply}, declared.said.Said.{Said}}
pub use Rattle.mon_command.specs.Commanded.{Names, Records, Served, Shown, Told, acl_reply, answered, commanded, creation_reply, printed, removal_reply, served, shown_as, told_by}
pub use Rattle.mon_device.{proofs.Putting.{puts_each, puts_failed, puts_four, puts_nothing, puts_same, puts_then, puts_three}, specs.Putting.{Puts, Standing}}
pub use Rattle.mon_guard.proofs.{Acting.{acts_where_granted}, Shorthand.{acl_of, created_unless, made, owner_denial_of, records_of, removed_unless}}
pub use Rattle.mon_guard.specs.{Acting.{Acted, acted, changed, changing, left, only_answered, read_at}, Owning.{new_set, owner_denial}, Reasons.{reason_of}}
pub use Rattle.mon_guard.specs.Deciding.{decision_on, is_granted, may_be_shown, to_execute, to_read, to_write, where_granted}
pub use Rattle.mon_guard.specs.Laws.{AreForReading, IsFor, IsForSeeing, IsGranted, IsThere, LendsWhereGranted, MaySeeList, Owns, OwnsNamed}
pub use Rattle.mon_guard.specs.Views.{AclPart, NamePart, acl_lent, acl_part, name_part, names_lent, names_shown, records_lent}
pub use Rattle.mon_guard.specs.inner.Parts.{acl_set_unless, by_decision, ended, given, or_denied}
pub use Rattle.mon_monitor.specs.{Abstraction.{system, system_of}, Agreeing.{Agree, Both, LooksAlike, ReachesAgree, SchedulersAgree, TiesFit}}
pub use Rattle.mon_monitor.specs.{Answering.{AreNamed, IsDone, IsTold, LacksRoom, ReadsPast, before}, Audit.{audit, audit_line, event_lines, loading_lines}}
pub use Rattle.mon_monitor.specs.{Appending.{AppendOnly, Begins, Deletes, HasDeleted, Keeps, NoneDeletes}, Beginnings.{FromTheBeginning}}
pub use Rattle.mon_monitor.specs.{Events.{Drain, Event, Give, Load, Serve}, Example.{TheyAgree, all_perms, ann, bobs, no_perms, with_two}}
pub use Rattle.mon_monitor.specs.{Granted.{AccessesAreNamed, IsNamed, NamesGrants, NamesItsGrant}, Happening.{Breaks, Closes, Does, Happens, HappensUnmarked}}
pub use Rattle.mon_monitor.specs.Isolation.{CommandsAgree, IsOwn, Isolated, LoadsAgree, RequestAgrees, RequestsAgree, TurnsAgree}
pub use Rattle.mon_monitor.specs.Laws.{AccountsStay, AsUnmarked, CardByCard, LoadHasRoom, NotByMemory, PlayedUnmarked, PrintedInOrder, SlotsStay}
pub use Rattle.mon_monitor.specs.Schedules.{AnySchedule, AsAlone, DrainedInAnyOrder, EndsAlone, InAnyOrder, Settles, of_slot, turns_given}
pub use Rattle.mon_monitor.specs.SystemStates.{SystemState, first_system, with_scheduler, with_sets}
pub use Rattle.mon_monitor.specs.Unseen.{CommandIsolated, LoadIsolated, TurnIsolated, turning}
pub use Rattle.mon_monitor.specs.{Played.{Played, happened, loading, of_loading, of_turns, played, then_played}, Printed.{given_back, piece_text, pieces_text}}
pub use Rattle.mon_monitor.specs.{Printouts.{OfCommand, OfJob, OfRefused, Printout, printout_text, printouts_text}, declared.monitor.Monitor.{Monitor}}
pub use Rattle.mon_monitor.specs.{Seeing.{Overwrites, ReadsAt, ReadsSeeWrites, SeesWrites, Wrote}, declared.printed.Piece.{Piece}}
pub use Rattle.mon_monitor.specs.Headline.{EndsSo, Follow, GoesOn, HistoryTells, IsHistory, IsJob, IsRight, IsRightCommand, IsRightRequest, Lead, NumbersDiffer, ShowsRightly, StandsOver, cards_of, exchange, exchanges, job_in_cards, job_of, note_by, noted, sets_after, spool_line, spooled}
pub use Rattle.mon_monitor.specs.History.{Asked, Ended, Entered, Entry, Ordered, Refused, card_of, cards_in, end_entry, entries_of_rounds, entries_until, event_entries, history, is_of, load_entry, own, printout_of, printouts_in, turn_entries}
pub use Rattle.mon_monitor.specs.Turns.{BringInOrder, Brings, IsLowestFree, IsTurn, IsUnbroken, Loads, Seats, Stage, Take, TurnOf, Turns, TurnsCome, in_rounds, left_as}
pub use Rattle.mon_text.specs.declared.stop.Stop.{Stop}
pub use Rattle.mon_unit.proofs.{Changed.{Effect, changed_at, effect, effect_of, first_tie}, Fitting.{serve_fits}, Shorthand.{looked, or_untied}}
pub use Rattle.mon_unit.proofs.Looks.{cut_keeps_to_ties, looks_at_tied, one_look, run_keeps_to_ties, serve_alike, targets_stay}
pub use Rattle.mon_unit.proofs.Runs.{passed_alike, passed_begins, passing, run_alike, run_cut_alike}
pub use Rattle.mon_unit.specs.{Laws.{AsksChange, ReadsDeck, ReadsSet, Same, TiedTo, WhyDenied, position_of, target_of, targets}, Runs.{passed, run, run_cut}}
pub use Rattle.mon_unit.specs.{Serving.{Reach, acted_at, moved, note_act, note_target, on_set, serve, set_at, set_of, unit_of}, State.{UnitState}}
pub use Rattle.mon_unit.specs.{Tying.{tie_at, tied_to}, declared.note.Note.{Note}, declared.note.NoteAct.{NoteAct}, declared.note.NoteTarget.{NoteTarget}}
pub use Rattle.mon_unit.specs.declared.tie.{Target.{Target}, Target.TheVariants.{Data, Set, Spool, Untied}, Tie.{Tie}}
pub use Rattle.scheduler.proofs.{Begun.{job_less, run_ends, turn_comes}, Seating.{IsSeat, free_seat, seat_changed, taken_seat}, Seats.{seat_length}}
pub use Rattle.scheduler.proofs.Past.{drain_empties, either_way, enough, marks_end_jobs, turn_length, unmarked, until_goes, until_length, until_stops}
pub use Rattle.scheduler.proofs.Shorthand.{broken_by, turn_as_by}
pub use Rattle.scheduler.specs.{Abstraction.{slots_in}, AuditLines.{end_lines, exchanged_line, exchanged_lines, lines_of_rounds, lines_until, turn_lines}}
pub use Rattle.scheduler.specs.{Exchanged.{Exchanged, asked_by, asked_in, whole_turn}, Floors.{scheduler_in}, Rounds.{MarksEndJobs, NoneByMemory, RoomIsMade}}
pub use Rattle.scheduler.specs.{States.{SchedulerState, SlotState, first_free, job_in, scheduler, seat_at, with_seat}, Ties.{Independent}}
pub use Rattle.scheduler.specs.{Turning.{DrainIs, MarkedIs, RoomIs, TurnOr, UntilIs, end_in}, declared.slots.Slots.{Slots}}
pub use Rattle.scheduler.specs.{Turns.{after_turn, ends_by, job_end, ran, reached, seat, told, turn_by, turns}, inner.Parts.{broken_turn, ends_then, slot_by}}
pub use Rattle.scheduler.specs.Loads.{first_units, job_loaded, load_refusal, loaded_by, loaded_slot, program_in, slot_in, tied_by, with_ties}
pub use Rattle.scheduler.specs.Marks.{Mark, Marks, Past, counted, drain, exchanges_at, has_free_slot, is_done, mark_of, marked, may_break, never, nothing, passed_at, ran_as, room, rounds, rounds_until, turn_as, turns_left, until}
pub use Rattle.sno_cards.specs.{Answers.{IfRefused}, Programs.{ProgramText}, Statements.{statements_of}, declared.refusal.SyntaxError.{SyntaxError}}
pub use Rattle.sno_run.proofs.Tallying.{turn_counts}
pub use Rattle.sno_run.specs.Jobs.{Job, counted_turn, counted_turns, ending_of, first_job, statements_begun, stepped, turn_from, turn_of, turns_of}
pub use Rattle.sno_run.specs.declared.ending.{Ending.{Ending}, Ending.TheVariants.{Memory, Normal}, Step.{Step}}
pub use Rattle.sno_semantics.specs.{Evaluation.{evaluate, name_of}, declared.got.Halt.{Halt}}
pub use Rattle.sno_state.specs.State.{keeping}
pub use Rattle.sno_syntax.specs.{Laws.{ReadsPrograms, SpellsOne}, Programs.{Program}, Refusals.{syntax_refusal}}
pub use Rattle.std.proofs.{Math.Nat.{suc-mul}, lemmas.Bool.{eq-eqb, eqb-false, eqb-true, le-ltb, lt-ltb}, lemmas.List.{map-append}, lemmas.Nat.{mod-mul-add}}
pub use Rattle.std.proofs.lemmas.{Bool.Decides.{eqb_tells, nat_tests, not_from_Decides}, List.Concat.{flat_map-append}, Option.{slice_get_cases}}
pub use Rattle.std.proofs.lemmas.{List.Elements.{filter-append}, Slice.Eq.{bytes_eq-Decides}}
pub use Rattle.std.proofs.lemmas.Map.Keys.{IsDistinct-cons, IsDistinct-from_apart, IsDistinct-head, IsDistinct-push, IsDistinct-tail}
pub use Rattle.std.specs.List.{AllByRecursion, IsDistinct, flat_map, list_all, list_any, position_from, range_with_len}
pub use Rattle.std.specs.{Cmp.Lexicographic.{bytes_decides, nat_list_eq_equiv, pointwise}, Map.{keys_of}, Option.{option_and_then, option_flatten, option_or}}
pub use Rattle.deck_lines.specs.declared.unit_error.UnitError.{UnitError}
