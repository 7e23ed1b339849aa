-- What an inquiry stands for.
use Rattle.def_format.specs.Documents as documents
use Rattle.def_format.specs.Documents.{inquiry_of}
use Rattle.pd_spec.specs.Views.{options_view}
use Rattle.judge_session.specs.declared.inquiry.Inquiry.{Inquiry}

abbrev pub inquiry_view : Inquiry → documents.Inquiry
inquiry_view inquiry = inquiry_of (options_view inquiry.options.now) inquiry.document.now
