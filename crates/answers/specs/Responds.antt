-- What a program does with the page on a stream: it reads the page, and writes its answer.
use Rattle.std.specs.Prelude.{ℕ, ◌<◌, ◌≤◌, cond, leb, List, ◌++◌, length, Option}
use Rattle.std.specs.Io.KnownBytes.{Appends, Consumes, IsAtEnd}
use Rattle.ground.specs.Words.{bytes}
use Rattle.rail.specs.Words.{newline}
use Rattle.answers.specs.declared.Way.{Way}
use Rattle.answers.specs.Answers.{answer_of}

-- the most bytes that are read
abbrev pub most_read : ℕ
most_read = 65536

-- the most bytes that an answer may have
abbrev pub longest_answer : ℕ
longest_answer = 262144

-- what is written of an answer: the answer, or that it is too long
abbrev pub sent : List ℕ → List ℕ
sent bs = cond (leb (length bs) longest_answer) bs (bytes "answer too long" ++ newline)

-- the bytes of the page leave the input, and what is written of its answer is added to the output; a page of less than the most bytes is all
-- that the input had
pub record Responds (way : Way) (input input_after output output_after : Option (List ℕ)) : Type 0 where
  pub page : List ℕ
  pub short : length page ≤ most_read
  pub read : Consumes input input_after page
  pub whole : length page < most_read → IsAtEnd input_after
  pub told : Appends output output_after (sent (answer_of way page))
