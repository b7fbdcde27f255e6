-- What is lent, what is answered, and what the output holds in the end.
use Rattle.std.specs.Prelude.{◌≡◌, List, ℕ, length, replicate, Result, Ok, Err}
use Rattle.rules.specs.declared.Answer.{Answer}
use Rattle.rules.specs.Answer.{accepted, refusal_in}
use Rattle.rules.specs.Chunk.{ObjectFunction}
use Rattle.rules.specs.Image.{image_with}
use Rattle.rules.specs.Entry.{Lent, asks_directory, leaves, write_image}
use Rattle.writer.specs.Put.{Records}
use Rattle.rules.specs.declared.Stopped.{Stopped}

abbrev pub lent_of : (options : ℕ) → (table code spans out : List ℕ) → Lent
lent_of options table code spans out =
    record {
      options = options;
      table_words = length table;
      code_bytes = length code;
      span_words = length spans;
      output_bytes = length out;
    }

abbrev pub answer_of : Result ℕ Stopped → Answer
answer_of (Ok n) = accepted n
answer_of (Err x) = refusal_in x

abbrev pub output_of : (out : List ℕ) → Result ℕ Stopped → List ℕ
output_of out (Ok n) = out
output_of out (Err x) = replicate (length out) 0

-- the image of any functions whose records end at n is whole, with what is asked for, or there is no room for it
pub record Finished (options count n : ℕ) (out out' : List ℕ) (r : Result ℕ Stopped) : Type 0 where
  pub size : length out' ≡ length out
  pub is : (functions : List ObjectFunction) → Records out n functions → count ≡ length functions → (lent : Lent) → lent.output_bytes ≡ length out
      → write_image lent (image_with (asks_directory options) functions) ≡ leaves lent (answer_of r) (output_of out' r)
