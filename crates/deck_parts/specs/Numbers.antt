-- The numbers of jobs (own): a deck numbers its jobs from 1, so a job of a part is as many behind the jobs of the part's submissions before its
-- own as it is, in the whole, behind the jobs of all submissions before that.
use Rattle.std.specs.Prelude.{ℕ, suc, ◌+◌, ◌-◌, ◌^◌, ◌==◌, min, decimal, List, [], ◌∷◌, ◌++◌, codes, if◌then◌else◌}
use Rattle.deck_parts.specs.declared.record.TextNote.{TextNote}
use Rattle.deck_parts.specs.declared.output.Due.{Due}

-- so many more, as far as a count goes
abbrev pub more : ℕ → ℕ → ℕ
more jobs own = min (jobs + own) (2 ^ 64 - 1)

-- The submissions of part k, of those from this place on, behind which so many jobs stand before in the whole, and so many ahead in the part.
abbrev pub dues_of : ℕ → ℕ → ℕ → ℕ → List TextNote → List Due
dues_of k n before ahead [] = []
dues_of k n before ahead (text ∷ texts) =
    if text.part == k
    then record { number = n; commands = text.commands; jobs = text.jobs; before = before; ahead = ahead }
    ∷ dues_of k (suc n) (more before text.jobs) (more ahead text.jobs) texts
    else dues_of k (suc n) (more before text.jobs) ahead texts

-- the number in the whole of the job that has this one in the part
abbrev pub number_in : Due → ℕ → ℕ
number_in due job = more (job - due.ahead) due.before

-- a line of the part that begins with a job's number and goes on so, as it is in the whole
abbrev pub job_line : Due → ℕ → List ℕ → List ℕ
job_line due job behind = codes "JOB " ++ (decimal (number_in due job) ++ behind)
