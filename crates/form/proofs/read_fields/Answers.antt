-- `read_fields`: each way out, by the tests that led there.
use Rattle.form.proofs.Tests.{version_4, frames_10, bits_r2, padding_5, read_0}
use Rattle.form.proofs.read_fields.Goals as goal

pub returns-then-v-ne-VERSION : goal.returns-then-v-ne-VERSION
returns-then-v-ne-VERSION c = search version_4

pub returns-then-v-ge-MOST_FRAMES : goal.returns-then-v-ge-MOST_FRAMES
returns-then-v-ge-MOST_FRAMES c = search frames_10

pub returns-then-not-allowed : goal.returns-then-not-allowed
returns-then-not-allowed c = search bits_r2

pub returns-then-v-ne0 : goal.returns-then-v-ne0
returns-then-v-ne0 c = search padding_5

pub returns : goal.returns
returns c = search read_0
