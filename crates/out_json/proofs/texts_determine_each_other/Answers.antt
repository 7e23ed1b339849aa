-- The laws.
use Rattle.out_json.proofs.LastField.{json_determines_text, text_determines_json}
use Rattle.out_json.proofs.texts_determine_each_other.Goals as goal

pub returns-clause-json : goal.returns-clause-json
returns-clause-json c = json_determines_text

pub returns-clause-text : goal.returns-clause-text
returns-clause-text c = text_determines_json
