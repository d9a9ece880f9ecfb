-- The words of these proofs: definitions, and lemmas of the crates below.
pub use Rattle.audit.specs.{AuditedAnswers.{Audited, exchange_line}, declared.audited_service.AuditedService.{AuditedService}, inner.Keeping.{KeptFits}}
pub use Rattle.audit.specs.declared.audit_cache.AuditCache.{AuditCache}
pub use Rattle.deck_syntax.specs.declared.job_deck.{JobDeck.{JobDeck}, UnitCard.{UnitCard}}
pub use Rattle.interaction.proofs.{Counting.{plain_begun, plain_ends, plain_then}, Enough.{each_ends, ends_in_then}}
pub use Rattle.interaction.specs.{Asking.{Asking, Exchange, IsTrace, IsTracePrefix}, Counting.{Counted, plain, requests_in, statements_in}, Endings.{EndsIn}}
pub use Rattle.interaction.specs.{Exchanges.{AnswersAll}, Interactions.{Asks, Interaction, Returns}, declared.answer.Answer.{Answer}}
pub use Rattle.interaction.specs.declared.request.Request.{Request}
pub use Rattle.job_end.specs.{AuditLines.{ended_line}, declared.job_end.JobEnd.{JobEnd}, declared.turned.Turned.{Turned}}
pub use Rattle.job_end.specs.declared.turned.Turned.TheVariants.{Empty, Ended, Goes}
pub use Rattle.load_refusal.specs.{Loads.{cards_refused, job_refusal, missing, program_refusal}, declared.load_error.LoadError.{LoadError}}
pub use Rattle.load_refusal.specs.declared.load_error.LoadError.TheVariants.{Cards, NoAccount, NoSlot, Syntax}
pub use Rattle.mon_access.specs.{Accounts.{find_account}, declared.account.Account.{Account}}
pub use Rattle.mon_catalogue.specs.Sets.{Sets}
pub use Rattle.mon_device.{proofs.Putting.{puts_failed, puts_gathered, puts_nothing, puts_same, puts_then}, specs.Putting.{Puts, Standing}}
pub use Rattle.mon_text.specs.declared.stop.Stop.{Stop, TheVariants.{Refused}}
pub use Rattle.mon_unit.proofs.{Loans.{same_loans, served_cut, served_passed, served_run}, Runs.{run_bind}, Shorthand.{or_untied}}
pub use Rattle.mon_unit.specs.{Laws.{TiedTo}, Lent.{UnitAnswers, reach_of}, Runs.{run, run_cut}, Serving.{Reach, serve}, State.{UnitState}}
pub use Rattle.mon_unit.specs.{Tying.{is_a_set, is_set, meets, new_units, share, tie_refusal, tied_to}, declared.service.UnitService.{UnitService}}
pub use Rattle.mon_unit.specs.declared.tie.{Target.{Target}, Target.TheVariants.{Data, Set, Spool, Untied}, Tie.{Tie}}
pub use Rattle.scheduler.specs.{Abstraction.{seat_of, seats_of, slot_of, slots_in}, Exchanged.{Exchanged, asked_by, asked_in, whole_turn}, Ties.{Independent}}
pub use Rattle.scheduler.specs.{AuditLines.{end_lines, exchanged_lines, lines_of_rounds, lines_until, turn_lines}, Floors.{SameLoans, scheduler_in}}
pub use Rattle.scheduler.specs.{Holding.{most_from, most_held}, Rounds.{AtLast, Enough, NoneByMemory, TakesOneMark, Unmarked}, declared.floor.Floor.{Floor}}
pub use Rattle.scheduler.specs.Loads.{ToldByCards, deck_refusal, first_units, job_loaded, loaded_by, program_in, slot_in, tied_by, ties_refusal, with_ties}
pub use Rattle.scheduler.specs.inner.Rounding.{Ahead, Going, GoingTo, RoundTo, Unless, stop_of}
pub use Rattle.scheduler.specs.inner.Stepping.{BrokenOff, Cut, Done, Leaving, SeatStep, StepOr, Stepped, StillKept, Whole, jobs_in, one_in}
pub use Rattle.scheduler.specs.{States.{SchedulerState, SlotState, first_free, job_in, scheduler, seat_at, with_seat}, declared.rounds.Goal.{Goal}}
pub use Rattle.scheduler.specs.{Turning.{MarkedIs, RoundsAre, TurnOr, UntilIs, ended_in}, declared.slot.Slot.{Slot}, inner.Sharing.{are_apart, seats_share}}
pub use Rattle.scheduler.specs.{Turns.{after_turn, ends_by, job_end, ran, reached, seat, told, turn_by, turned}, inner.Parts.{broken_turn, ends_then, slot_by}}
pub use Rattle.scheduler.specs.inner.{Alone.{EndStays, GoesOn, GoesToEnd, IsLone, LoneEnds, SeatEnds}, Spelling.{IsSpelled}}
pub use Rattle.scheduler.specs.Marks.{Mark, Marks, Past, broken_at, counted, drain, exchanges_at, has_free_slot, is_done, mark_of, marked, may_break, never, nothing, passed_at, ran_as, room, rounds, rounds_until, turn_as, turns_left, until}
pub use Rattle.sno_cards.specs.{Answers.{IfRefused}, Programs.{ProgramText}, Statements.{statements_of}, declared.limits.Limits.{Limits}}
pub use Rattle.sno_cards.specs.declared.refusal.SyntaxError.{SyntaxError}
pub use Rattle.sno_expression.specs.Expressions.{Expression}
pub use Rattle.sno_run.specs.{Abstraction.{job_of}, declared.ending.Ending.{Ending}, declared.ending.Ending.TheVariants.{Memory}, declared.ending.Step.{Step}}
pub use Rattle.sno_run.specs.Jobs.{Broken, Job, MayBegin, TurnIs, counted_turn, ending_of, first_job, statement_at, statements_begun, stepped, turn_from, turn_of}
pub use Rattle.sno_semantics.{proofs.Depth.{executed_same, same_runs}, specs.Evaluation.{evaluate, name_of}, specs.Execution.{Jump, On, Over}}
pub use Rattle.sno_semantics.specs.{Lines.{At, End, FailureReturn, Line, Lines, Point, Return}, Running.{executed, if_begun, settled, turn_line}}
pub use Rattle.sno_semantics.specs.declared.got.{Evaluated.{Evaluated}, Halt.TheVariants.{Normal, StatementLimit}}
pub use Rattle.sno_state.{proofs.Counting.{state_counts}, specs.State.{allowed, keeping}}
pub use Rattle.sno_store.specs.States.{may_begin}
pub use Rattle.sno_syntax.{proofs.Readable.{reads_programs}, proofs.Wholes.{not_refused}, specs.Programs.{Program, program_of}}
pub use Rattle.std.proofs.{Math.ListN.{drop_of_length-le}, lemmas.Iterator.Adapters.{position_from-zero}, lemmas.List.Quantifiers.{position-Some}}
pub use Rattle.std.proofs.lemmas.{List.{at_drop_all, at_drop_more, length-map, take_rest}, Map.Keys.{any_passes_from_place}}
pub use Rattle.std.proofs.lemmas.{Option.{slice_get-map, slice_get_read}, Result.{IfErr-weaker, IfOk-weaker, err_from_is_err_and, on_ok_weaker}}
pub use Rattle.std.specs.{Cmp.Lexicographic.{bytes_decides}, List.{AllByRecursion, list_all, list_any, position_from, range_with_len}, Result.{result_ok}}
pub use Rattle.std.specs.Option.{option_flatten, option_map_or, option_or}
pub use Rattle.deck_lines.specs.{Ties.{refused_by}, declared.unit_error.UnitError.{UnitError}, declared.unit_error.UnitError.TheVariants.{UnitRange, UnitTwice}}
